use Rattle.std.proofs.Common.{ℕ, map, refl, subst}
use Rattle.wire_spec.specs.Dump.{sent_item}
use Rattle.reorder_buffer.specs.Stories.{begun}
use Rattle.reorder_buffer.specs.Tracks.{Tracks}
use Rattle.rtt_times.proofs.Hearing.{all_heard, nothing_heard}
use Rattle.rtt_times.proofs.stream_packets.heard_of.Goals as goal

pub returns-clause-heard : goal.returns-clause-heard
returns-clause-heard c = λ records a.
    let ssrc = c.args.ssrc in
    let payload_types = c.args.payload_types in
    let begins = nothing_heard ssrc payload_types c.in_ok-buffer.buffer c.new-heard.result (subst (λ (n : ℕ). Tracks c.in_ok-buffer.buffer (begun n)) c.from.ensures c.in_ok-buffer.ensures.stands) c.new-heard.ensures.empty in
    all_heard ssrc payload_types c.take_records.new.buffer c.finish.new.self c.drain.new.buffer c.take_records.new.self _ (map sent_item records)
    (c.in_ok-take_records.ensures.hears begins records a) c.finish.ensures.stands c.finish.ensures.all c.in_ok-drain.ensures.drains refl refl
