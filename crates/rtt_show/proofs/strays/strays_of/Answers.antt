use Rattle.std.proofs.Common.{◌+◌, List, [], Some, refl, sym, subst, arith, map}
use Rattle.wire_spec.specs.Packets.{Arrival}
use Rattle.wire_spec.specs.Text.{text_of}
use Rattle.wire_spec.specs.Dump.{Item, sent_item, arrivals_after}
use Rattle.rtpdump_io.proofs.Fronts.{front_none, front_all}
use Rattle.rtt_show.specs.Strays.{IsBound, Strayed}
use Rattle.rtt_show.proofs.Steps.{all_left, some_few, step_of}
use Rattle.rtt_show.proofs.Surveying.{arrives_more}
use Rattle.rtt_show.proofs.Following.{strayed_arrived, missed_strayed}
use Rattle.rtt_show.proofs.strays.strays_of.Goals as goal

pub loop-at-init : goal.loop-at-init
loop-at-init c = record {
  few = (0, all_left c.args.records.now c.requires, (c.in_ok-follower.ensures.short, c.new-strays.ensures.few));
  found = λ all a. front_none (λ came. Strayed c.in_ok-follower.follower c.new-strays.result (arrivals_after c.args.ssrc c.args.payload_types [] came)) c.args.records.now all (record { follows = c.in_ok-follower.ensures.nothing; strays = c.new-strays.ensures.nothing }) a;
}

pub take_packet-requires : goal.take_packet-requires
take_packet-requires c = some_few (λ n. IsBound n c.loop-at.follower c.loop-at.strays) (step_of c.loop-at.rest.now c.in-Some.at c.in-Some.octets.now c.in-Some.more.now c.in-Some.ensures.record c.in-Some.ensures.shorter) c.loop-at.invariant.few

pub loop-at-preserved : goal.loop-at-preserved
loop-at-preserved c =
    let i = c.loop-at.invariant in
    let step = step_of c.loop-at.rest.now c.in-Some.at c.in-Some.octets.now c.in-Some.more.now c.in-Some.ensures.record c.in-Some.ensures.shorter in
    let f = c.loop-at.follower in
    let s = c.loop-at.strays in
    let g = c.take_packet.new.follower in
    let t = c.take_packet.new.strays in
    let past : List Item → List Arrival = arrivals_after c.args.ssrc c.args.payload_types [] in
    record {
      few = (i.few.0 + 1, step.less i.few.0 (i.few.0 + 1) (omega arith) i.few.1, c.in_ok-take_packet.ensures.few i.few.0 i.few.2);
      found = λ all a.
          step.more (λ came. Strayed f s (past came)) (λ came. Strayed g t (past came))
          (λ came h. subst (Strayed g t) (sym (arrives_more c.args.payload_types c.args.ssrc came c.in-Some.at c.in-Some.octets.now)) (strayed_arrived f g s t c.in-Some.at (text_of c.in-Some.octets.now (Some c.args.ssrc) c.args.payload_types) (past came) c.in_ok-take_packet.ensures.more h))
          all (i.found all a);
    }

pub returns : goal.returns
returns c = λ all a.
    let f = c.loop-at.follower in
    let s = c.loop-at.strays in
    missed_strayed c.args.payload_types c.args.ssrc f s (record { lost = c.missing.result; late = s.packets }) (map sent_item all) c.missing.ensures refl
    (front_all (λ came. Strayed f s (arrivals_after c.args.ssrc c.args.payload_types [] came)) c.loop-at.rest.now all c.in_default.ensures.record (c.loop-at.invariant.found all a))
