use Rattle.std.proofs.Common.{◌≡◌, ◌≤◌, List, length, refl, ap, sym, ◌∙◌, subst, arith}
use Rattle.std.specs.Prelude.{All, ◌<◌}
use Rattle.std.specs.Vec.{with_items}
use Rattle.std.proofs.lemmas.List.{with_items_is}
use Rattle.rtt_base.specs.declared.text_packets.TextPacket.{TextPacket}
use Rattle.reorder_buffer.specs.Stories.{Story, given_of}
use Rattle.receiver.specs.Hears.{ready_packets}
use Rattle.rtt_base.specs.declared.limits.TheConstants.{MOST_TEXT_OCTETS}
use Rattle.receiver.proofs.Given.{given_short, next_rises}
use Rattle.cascade.specs.declared.splitters.SourceRecording.{SourceRecording}
use Rattle.cascade.specs.declared.dividers.Demux.{Demux}
use Rattle.cascade.specs.Dividing.{Divides, TakesDue, lively_by}
use Rattle.cascade.proofs.Gathering.{all_typed, gathers_none, gathers_one, gathered}
use Rattle.cascade.proofs.dividers.Demux.gather.Goals as goal

pub loop-due-init : goal.loop-due-init
loop-due-init c = gathers_none c.args.self.now

pub divide-requires-clause-rises : goal.divide-requires-clause-rises
divide-requires-clause-rises c = λ latest e.
    let r = c.requires.hears in
    let now = c.loop-due.invariant.hears r.0 r.1 r.2 r.3 in
    let before : Story = record r.2 { given = now.0 } in
    next_rises c.next.new.self before (given_of c.in-Some.due c.next.new.self.current) (c.in-Some.ensures.some before now.1.tracks) latest (sym now.1.latest ∙ e)

pub divide-requires-clause-short : goal.divide-requires-clause-short
divide-requires-clause-short c =
    let r = c.requires.hears in
    let now = c.loop-due.invariant.hears r.0 r.1 r.2 r.3 in
    let before : Story = record r.2 { given = now.0 } in
    subst (λ (p : TextPacket). length p.primary ≤ MOST_TEXT_OCTETS) (sym c.packet.ensures)
    (given_short c.next.new.self before (given_of c.in-Some.due c.next.new.self.current) (c.in-Some.ensures.some before now.1.tracks) now.1.short)

pub divide-requires-clause-t140 : goal.divide-requires-clause-t140
divide-requires-clause-t140 c =
    let r = c.requires.hears in
    let now = c.loop-due.invariant.hears r.0 r.1 r.2 r.3 in
    subst (λ (xs : List SourceRecording). All (λ (s : SourceRecording). s.payload_types.t140 < 128) xs) (sym c.as_mut_slice.ensures.value)
    (all_typed r.0.payload_types r.1 c.loop-due.self.splitters.items (λ s. lively_by (ready_packets now.0) s) now.1.t140 now.1.split_off.each now.1.split_off.splits)

pub loop-due-preserved : goal.loop-due-preserved
loop-due-preserved c =
    let before = c.loop-due.self in
    let after : Demux = record before { buffer = c.next.new.self; receiver = c.divide.new.receiver; splitters = with_items before.splitters c.divide.new.splitters; out = c.divide.new.out } in
    let size : length c.divide.new.splitters ≡ before.splitters.len = omega (arith, c.divide.auto.splitters, ap (λ (xs : List SourceRecording). length xs) c.as_mut_slice.ensures.value, before.splitters.ok.0) in
    let packet = c.packet.ensures in
    let divides : Divides before.receiver before.splitters.items c.divide.new.splitters c.in-Some.due c.next.new.self.current =
    subst (λ (p : TextPacket). Divides before.receiver before.splitters.items c.divide.new.splitters c.in-Some.due p) packet
    (subst (λ (xs : List SourceRecording). Divides before.receiver xs c.divide.new.splitters c.in-Some.due c.packet.result.now) c.as_mut_slice.ensures.value c.in_ok-divide.ensures.divides) in
    record {
      hears = gathers_one c.args.self.now before after c.in-Some.due c.loop-due.invariant refl refl
          c.in-Some.ensures.some
          (subst (λ (p : TextPacket). TakesDue before.receiver c.divide.new.receiver c.in-Some.due p) packet c.divide.ensures.stands)
          c.divide.ensures.latest
          (subst (λ (xs : List SourceRecording). Divides before.receiver before.splitters.items xs c.in-Some.due c.next.new.self.current) (sym (with_items_is before.splitters c.divide.new.splitters size)) divides);
      arrivals = c.in-Some.ensures.arrivals ∙ c.loop-due.invariant.arrivals;
      finished = c.in-Some.ensures.finished ∙ c.loop-due.invariant.finished;
    }

pub returns-clause-gathers : goal.returns-clause-gathers
returns-clause-gathers c =
    gathered c.args.self.now c.loop-due.self (record c.loop-due.self { buffer = c.next.new.self }) c.loop-due.invariant refl refl c.in_default.ensures.unchanged refl refl c.in_default.ensures.none
