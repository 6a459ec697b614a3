use Rattle.std.proofs.Common.{◌≡◌, true, false, sym, subst, ◌∙◌}
use Rattle.unaware_view.specs.Standing.{IsAsked, NoneWaits, answered, given_now}
use Rattle.terminal_scheduler.specs.UnawareInsides.{state_of}
use Rattle.terminal_scheduler.specs.UnawareStates.{UnawareState}
use Rattle.terminal_scheduler.specs.UnawareStanding.{Composes}
use Rattle.terminal_scheduler.proofs.UnawareAsking.{none_known, passes}
use Rattle.terminal_scheduler.proofs.unaware.UnawareScheduler.ask.Goals as goal

pub returns-then-self-clause-composes : goal.returns-then-self-clause-composes
returns-then-self-clause-composes c = λ s table asks.
    let new : UnawareState = record (state_of c.self.inside) { composer = c.pass.new.self } in
    subst (λ (x : UnawareState). IsAsked s table x.composer c.args.slots.now c.args.names.now asks → (x.none_waits ≡ true → NoneWaits s table x.composer)
    → Composes s table x.composer c.args.media c.args.is_asked asks false c.clear.new.self new c.args.slots.now) c.self.view_is
    (λ h n. let none = n c.if-self.true in
    passes s table c.self.inside.composer c.args.media c.args.is_asked asks c.clear.new.self new c.args.slots.now h.stands h.slots_stand none c.clear.ensures
    (c.pass.ensures.stands s table c.args.is_asked asks h.stands none))

pub returns-clause-composes : goal.returns-clause-composes
returns-clause-composes c = λ s table asks.
    let new : UnawareState = record (state_of c.self.inside) { composer = c.turn-gave.new.self; none_waits = c.is_empty-none_waits.result } in
    subst (λ (x : UnawareState). IsAsked s table x.composer c.args.slots.now c.args.names.now asks → (x.none_waits ≡ true → NoneWaits s table x.composer)
    → Composes s table x.composer c.args.media c.args.is_asked asks c.turn-gave.result c.turn-gave.new.text new c.turn-gave.new.slots) c.self.view_is
    (λ h n.
    let me = c.self.inside.composer in
    let after = answered me.own (given_now s table me c.args.media c.args.is_asked asks) table in
    let stand = c.turn-gave.ensures.waits s table asks h in
    let legs : c.self.inside.legs ≡ s.legs = sym c.self.invariant.legs_are ∙ h.stands.legs in
    record {
      given = c.turn-gave.ensures.given s table asks h;
      text_is = c.turn-gave.ensures.text s table asks h;
      composer = c.turn-gave.ensures.stands s table asks h;
      slots_stand = stand;
      rests = none_known s after me c.self.inside.own c.self.inside.legs c.is_empty-none_waits.result c.self.invariant.own_is legs (c.is_empty-none_waits.ensures s after stand);
    })
