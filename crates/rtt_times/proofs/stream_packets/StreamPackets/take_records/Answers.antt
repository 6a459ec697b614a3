use Rattle.std.proofs.Common.{ℕ, ◌∙◌, subst}
use Rattle.reorder_buffer.specs.States.{arrival_count}
use Rattle.rtpdump_io.proofs.Fronts.{front_all}
use Rattle.rtt_show.proofs.Steps.{step_of}
use Rattle.rtt_times.specs.Heard.{HearsOctets, Listening}
use Rattle.rtt_times.proofs.stream_packets.StreamPackets.take_records.Goals as goal

pub loop-at-preserved : goal.loop-at-preserved
loop-at-preserved c =
    let i = c.loop-at.invariant in
    let s = step_of c.loop-at.rest.now c.in-Some.at c.in-Some.octets.now c.in-Some.more.now c.in-Some.ensures.record c.in-Some.ensures.shorter in
    let said = c.in_ok-take_octets.ensures in
    let ssrc = c.args.ssrc in
    let payload_types = c.args.payload_types in
    record {
      left = s.less (arrival_count c.loop-at.buffer) (arrival_count c.take_octets.new.buffer) said.arrivals i.left;
      quiet = said.quiet;
      open_still = said.finished ∙ i.open_still;
      small = said.small;
      hears = λ none all a.
          s.more (Listening ssrc payload_types c.loop-at.buffer c.loop-at.self) (Listening ssrc payload_types c.take_octets.new.buffer c.take_octets.new.self)
          (subst (λ (n : ℕ). HearsOctets ssrc payload_types n c.in-Some.octets.now c.loop-at.buffer c.loop-at.self c.take_octets.new.buffer c.take_octets.new.self) c.from.ensures said.hears)
          all (i.hears none all a);
    }

pub returns-clause-hears : goal.returns-clause-hears
returns-clause-hears c = λ none all a.
    front_all (Listening c.args.ssrc c.args.payload_types c.loop-at.buffer c.loop-at.self) c.loop-at.rest.now all c.in_default.ensures.record (c.loop-at.invariant.hears none all a)
