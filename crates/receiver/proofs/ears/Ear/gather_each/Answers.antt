use Rattle.std.proofs.Common.{◌≡◌, length, ◌∷◌, [], ◌++◌, ◌^◌, ◌≤◌, refl, sym, ◌∙◌, arith, subst}
use Rattle.rtt_base.specs.declared.text_packets.TextPacket.{TextPacket}
use Rattle.reorder_buffer.specs.Stories.{Story, given_of}
use Rattle.receiver.specs.Stands.{Stands, used_packet}
use Rattle.receiver.specs.Each.{AreHeard}
use Rattle.receiver.specs.Hears.{arrival_count}
use Rattle.receiver.proofs.Given.{next_rises, given_fits}
use Rattle.receiver.proofs.Each.{texts_there, markers_small, gathers_each_one, gathered_each, gathered_each_moved}
use Rattle.receiver.proofs.ears.Ear.gather_each.Goals as goal

pub take_each-requires-clause-rises : goal.take_each-requires-clause-rises
take_each-requires-clause-rises c = λ latest e.
    let r = c.requires.hears in
    let now = c.loop-due.invariant.hears r.0 r.1 r.2 r.3 in
    let before : Story = record r.2 { given = now.0 } in
    next_rises c.next.new.self before (given_of c.in-Some.due c.next.new.self.current) (c.in-Some.ensures.some before now.1.hears.tracks) latest (sym now.1.hears.latest ∙ e)

pub take_each-requires-clause-each : goal.take_each-requires-clause-each
take_each-requires-clause-each c =
    let r = c.requires.hears in
    let now = c.loop-due.invariant.hears r.0 r.1 r.2 r.3 in
    texts_there c.loop-due.self r.0 r.1 (record r.2 { given = now.0 }) c.loop-due.heard now.1

pub take_each-requires-clause-few : goal.take_each-requires-clause-few
take_each-requires-clause-few c =
    let r = c.requires.hears in
    let now = c.loop-due.invariant.hears r.0 r.1 r.2 r.3 in
    let few : arrival_count c.loop-due.self ≤ 2 ^ 40 = omega (arith, c.loop-due.invariant.arrivals, c.requires.few) in
    markers_small c.loop-due.self r.0 r.1 (record r.2 { given = now.0 }) c.loop-due.heard now.1 few

pub overflow_add-used : goal.overflow_add-used
overflow_add-used c =
    let r = c.requires.hears in
    let now = c.loop-due.invariant.hears r.0 r.1 r.2 r.3 in
    let few = given_fits c.loop-due.self.buffer (record r.2 { given = now.0 }) now.1.hears.tracks in
    omega (arith, few, now.2, c.loop-due.invariant.arrivals, c.requires.few)

pub loop-due-preserved : goal.loop-due-preserved
loop-due-preserved c = let size : length c.take_each.new.heard ≡ length c.loop-due.heard = omega (arith, c.take_each.auto.heard) in record {
  hears = gathers_each_one c.args.self.now c.loop-due.self _ c.in-Some.due c.loop-due.used c.args.heard.now c.loop-due.heard c.take_each.new.heard c.loop-due.invariant size refl
      c.in-Some.ensures.some
      (λ sources us time s. subst (λ (p : TextPacket). Stands c.take_each.new.self sources (us ++ used_packet time c.in-Some.due.number p ∷ [])) c.packet.ensures (c.in_ok-take_each.ensures.stands sources us time s))
      c.in_ok-take_each.ensures.latest
      (λ sources us time s are. subst (λ (p : TextPacket). AreHeard sources (us ++ used_packet time c.in-Some.due.number p ∷ []) c.take_each.new.heard) c.packet.ensures (c.in_ok-take_each.ensures.heard sources us time s are));
  settings = c.loop-due.invariant.settings;
  piece = c.loop-due.invariant.piece;
  arrivals = c.in-Some.ensures.arrivals ∙ c.loop-due.invariant.arrivals;
  finished = c.in-Some.ensures.finished ∙ c.loop-due.invariant.finished;
}

pub returns-clause-gathers : goal.returns-clause-gathers
returns-clause-gathers c settings sources story h =
    gathered_each_moved c.loop-due.self _ settings sources story c.loop-due.used c.loop-due.heard refl c.in_default.ensures.unchanged refl
    (gathered_each c.args.self.now c.loop-due.self c.loop-due.used c.args.heard.now c.loop-due.heard c.loop-due.invariant c.in_default.ensures.none settings sources story h)
