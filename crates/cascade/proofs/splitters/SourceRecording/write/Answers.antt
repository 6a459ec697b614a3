use Rattle.std.proofs.Common.{◌≡◌, ℕ, List, ◌++◌, ◌+◌, ◌%◌, refl, ap, ◌∙◌}
use Rattle.std.specs.Prelude.{max}
use Rattle.wire_spec.specs.Dump.{record_written}
use Rattle.wire_spec.specs.SentPackets.{packet_written}
use Rattle.command_spec.specs.Splitting.{moment_of, packet_of, timestamp_of}
use Rattle.cascade.specs.Splitters.{hand_of}
use Rattle.cascade.proofs.splitters.SourceRecording.write.Goals as goal

pub returns-clause-writes : goal.returns-clause-writes
returns-clause-writes c =
    let old = c.args.self.now in
    let moment : c.moment_of-moment.result ≡ moment_of (hand_of old) = c.moment_of-moment.ensures in
    let timestamp : c.max-timestamp.result ≡ timestamp_of old.least (hand_of old) = c.max-timestamp.ensures ∙ ap (λ n. max n old.least) moment in
    let packet : c.as_slice.result.now ≡ packet_written old.payload_types (packet_of old.source old.seq (timestamp_of old.least (hand_of old)) old.text) =
    c.as_slice.ensures.value ∙ (c.write_plain.ensures.packet
    ∙ (ap (λ n. packet_written old.payload_types (packet_of old.source old.seq n c.as_slice-text.result.now)) timestamp
    ∙ ap (λ t. packet_written old.payload_types (packet_of old.source old.seq (timestamp_of old.least (hand_of old)) t)) c.as_slice-text.ensures.value)) in
    record {
      octets = c.in_ok-write_record.ensures.ok ∙ ap (λ (r : ℕ × List ℕ). old.octets ++ record_written r) (λ i. (moment i, packet i));
      seq = refl;
      least = ap (λ n. (n + 1) % 4294967296) timestamp;
      source = refl;
      payload_types = refl;
    }
