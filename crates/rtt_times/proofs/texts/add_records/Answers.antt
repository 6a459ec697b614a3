use Rattle.std.proofs.Common.{ℕ, ◌∙◌, arith, subst}
use Rattle.receiver.specs.Hears.{arrival_count}
use Rattle.rtpdump_io.proofs.Fronts.{front_none, front_all}
use Rattle.rtt_show.proofs.Steps.{step_of}
use Rattle.recording_views.specs.Writing.{WritesPacket}
use Rattle.rtt_times.specs.Writing.{AddsTexts, HasWrittenOf}
use Rattle.rtt_times.proofs.Writing.{packet_written}
use Rattle.rtt_times.proofs.texts.add_records.Goals as goal

pub loop-at-init : goal.loop-at-init
loop-at-init c = record {
  left = record { back = c.requires.records.0; left = c.requires.records.1; few = omega (arith, c.requires.records.1.few, c.requires.none) };
  giving = c.requires.giving;
  quiet = c.requires.quiet;
  open_still = c.requires.open;
  written = λ r first h all a. front_none (HasWrittenOf c.args.writer.now.name r first c.args.ear.now c.args.lines.now) c.args.records.now all h a;
}

pub loop-at-preserved : goal.loop-at-preserved
loop-at-preserved c =
    let i = c.loop-at.invariant in
    let name = c.args.writer.now.name in
    let s = step_of c.loop-at.rest.now c.in-Some.at c.in-Some.octets.now c.in-Some.more.now c.in-Some.ensures.record c.in-Some.ensures.shorter in
    let said = c.in_ok-write_packet.ensures in
    record {
      left = s.less (arrival_count c.loop-at.ear) (arrival_count c.write_packet.new.ear) said.few i.left;
      giving = said.giving;
      quiet = said.quiet;
      open_still = said.finished ∙ i.open_still;
      written = λ r first h all a.
          s.more (HasWrittenOf name r first c.loop-at.ear c.loop-at.lines) (HasWrittenOf name r first c.write_packet.new.ear c.write_packet.new.out)
          (packet_written name r c.loop-at.ear c.write_packet.new.ear c.in-Some.at c.in-Some.octets.now first c.loop-at.lines c.write_packet.new.out
          (subst (λ (n : ℕ). WritesPacket (AddsTexts name) n c.in-Some.octets.now c.loop-at.ear c.loop-at.lines c.write_packet.new.ear c.write_packet.new.out) c.from.ensures said.writes))
          all (i.written r first h all a);
    }

pub returns-clause-writes : goal.returns-clause-writes
returns-clause-writes c = λ r first h all a.
    front_all (HasWrittenOf c.args.writer.now.name r first c.loop-at.ear c.loop-at.lines) c.loop-at.rest.now all c.in_default.ensures.record (c.loop-at.invariant.written r first h all a)
