use Rattle.std.proofs.Common.{◌≡◌, Some, length, subst, sym}
use Rattle.mixer_spec.specs.Table.{serve_leg}
use Rattle.mixer_places.specs.Words.{fetched}
use Rattle.mixer_places.specs.SlotStanding as slots
use Rattle.terminal_scheduler.specs.AwareStates.{AwareState}
use Rattle.terminal_scheduler.specs.AwareTurns.{IsTurned, text_of_leg}
use Rattle.terminal_scheduler.proofs.AwareServing.{leg_served}
use Rattle.terminal_scheduler.proofs.aware.AwareScheduler.serve_leg.Goals as goal

pub returns-clause-turned : goal.returns-clause-turned
returns-clause-turned c = λ s table h now l n.
    let o = c.args.self.now in
    let leg = c.args.leg in
    let text = c.fetch.new.text in
    let after = c.fetch.new.slots in
    subst (λ (x : AwareState). IsTurned s table o.own (serve_leg s o.own now c.args.media (table.terminals o.own) c.args.place (Some leg)) c.args.media x after (Some leg) text) (sym c.keep.ensures)
    (leg_served s table o c.args.slots.now after c.args.place leg c.args.media now text h
    (subst (λ (x : AwareState). length x.left ≡ length x.free_at) c.self.view_is c.self.invariant.legs) l n
    (subst (λ (x : AwareState). text ≡ text_of_leg x.room (table.terminals x.own) leg) c.self.view_is (c.fetch.ensures.text s table h.slots_stand))
    (subst (λ (x : AwareState). slots.SlotsStandFor s after (fetched x.own leg x.room table)) c.self.view_is (c.fetch.ensures.stands s table h.slots_stand)))
