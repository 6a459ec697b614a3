use Rattle.std.proofs.Common.{◌≡◌, ◌<◌, Some, false, length, length-set, refl, ap, subst, sym, arith}
use Rattle.std.specs.Prelude.{slice_get}
use Rattle.std.proofs.lemmas.Option.{slice_get_read}
use Rattle.mixer_places.specs.declared.seats.Seat.{Seat}
use Rattle.mixer_places.specs.States.{State}
use Rattle.mixer_places.specs.Insides.{state_of}
use Rattle.mixer_places.specs.SeatStanding.{SeatingStandsFor}
use Rattle.mixer_places.proofs.Keeping.{places_set, stands_hushed}
use Rattle.mixer_places.proofs.Few.{holds_kept}
use Rattle.mixer_places.proofs.seats.SeatingPlan.hush.Goals as goal

pub invariant_of-self : goal.invariant_of-self
invariant_of-self c =
    let xs = c.self.inside.seats.items in
    let x = c.index_mut.result.now in
    let l : c.args.leg < length xs = omega (arith, c.requires, ap (λ (m : State). length m.legs) c.self.view_is) in
    let g : slice_get xs c.args.leg ≡ Some x = slice_get_read xs (length xs) c.args.leg x refl l c.index_mut.ensures.value in
    let y : Seat = record { place = x.place; came = x.came; listens = false } in
    record {
      sixteen = c.self.invariant.sixteen;
      places = places_set xs c.args.leg y c.self.invariant.places (λ p e. c.self.invariant.places c.args.leg x p g e);
      held = holds_kept xs c.self.inside.holders c.args.leg x y c.self.invariant.held g refl;
      legs = λ p k e. omega (arith, c.self.invariant.legs p k e, length-set xs c.args.leg y);
      few = c.self.invariant.few;
      reach = c.self.invariant.reach;
    }

pub returns-clause-stands : goal.returns-clause-stands
returns-clause-stands c = λ s table h.
    let xs = c.self.inside.seats.items in
    let x = c.index_mut.result.now in
    let l : c.args.leg < length xs = omega (arith, c.requires, ap (λ (m : State). length m.legs) c.self.view_is) in
    let g : slice_get xs c.args.leg ≡ Some x = slice_get_read xs (length xs) c.args.leg x refl l c.index_mut.ensures.value in
    stands_hushed s (state_of c.self.inside) table c.args.leg x (record { place = x.place; came = x.came; listens = false }) (subst (λ (m : State). SeatingStandsFor s m table.seats) (sym c.self.view_is) h) g refl
