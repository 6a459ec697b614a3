use Rattle.std.proofs.Common.{◌≡◌, ◌<◌, Some, true, length, length-set, set, ap, subst, sym, ◌∙◌, arith}
use Rattle.mixer_places.specs.Places.{is_vacant}
use Rattle.mixer_places.specs.declared.seats.Seat.{Seat}
use Rattle.mixer_places.specs.States.{State}
use Rattle.mixer_places.specs.Insides.{state_of}
use Rattle.mixer_places.specs.SeatStanding.{SeatingStandsFor}
use Rattle.mixer_places.proofs.Keeping.{places_set, legs_set, reach_set, first_within, stands_admitted}
use Rattle.mixer_places.proofs.Few.{holds_come, vacant_at}
use Rattle.mixer_places.proofs.seats.SeatingPlan.admit.Goals as goal

pub invariant_of-self : goal.invariant_of-self
invariant_of-self c =
    let i = c.self.inside in
    let y : Seat = record { place = Some c.in-Some.place; came = true; listens = c.args.listens } in
    let l : c.args.leg < length i.seats.items = omega (arith, c.requires, ap (λ (m : State). length m.legs) c.self.view_is) in
    let w : c.in-Some.place < length i.holders = first_within (is_vacant i.holders) (length i.holders) c.in-Some.place c.in-Some.ensures in
    record {
      sixteen = length-set i.holders c.in-Some.place (Some c.args.leg) ∙ c.self.invariant.sixteen;
      places = places_set i.seats.items c.args.leg y c.self.invariant.places (λ p e. let q : c.in-Some.place ≡ p = cc e in omega (arith, c.self.invariant.sixteen));
      held = holds_come i.seats.items i.holders c.args.leg c.in-Some.place y c.self.invariant.held (vacant_at i.holders c.in-Some.place c.in-Some.ensures) (λ j. Some c.in-Some.place);
      legs = legs_set i.holders c.in-Some.place (length i.seats.items) (length (set i.seats.items c.args.leg y)) (Some c.args.leg) (length-set i.seats.items c.args.leg y) c.self.invariant.legs
          (λ k e. let q : c.args.leg ≡ k = cc e in omega arith);
      few = omega (arith, w, c.max-reach.ensures, c.self.invariant.few, c.self.invariant.sixteen);
      reach = reach_set i.holders c.in-Some.place i.reach c.max-reach.result (Some c.args.leg) (omega (arith, c.max-reach.ensures)) c.self.invariant.reach (λ k e. omega (arith, c.max-reach.ensures));
    }

pub returns-clause-stands : goal.returns-clause-stands
returns-clause-stands c = λ s table h none.
    stands_admitted s (state_of c.self.inside) table c.args.leg c.in-Some.place c.args.listens (subst (λ (m : State). SeatingStandsFor s m table.seats) (sym c.self.view_is) h) none
    (omega (arith, c.requires, ap (λ (m : State). length m.legs) c.self.view_is)) c.self.invariant.sixteen c.in-Some.ensures
