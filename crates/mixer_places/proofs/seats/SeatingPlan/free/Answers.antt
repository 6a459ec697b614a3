use Rattle.std.proofs.Common.{◌≡◌, ◌<◌, Some, None, length, length-set, set, refl, ap, subst, sym, ◌∙◌, arith}
use Rattle.std.specs.Prelude.{slice_get}
use Rattle.std.proofs.lemmas.Option.{slice_get_read}
use Rattle.mixer_spec.specs.Table.{freed}
use Rattle.mixer_places.specs.declared.seats.Seat.{Seat}
use Rattle.mixer_places.specs.States.{State}
use Rattle.mixer_places.specs.Insides.{state_of}
use Rattle.mixer_places.specs.SeatStanding.{SeatingStandsFor}
use Rattle.mixer_places.proofs.Keeping.{places_set, legs_set, reach_set, stands_freed, stands_placeless}
use Rattle.mixer_places.proofs.Few.{holds_left}
use Rattle.mixer_places.proofs.seats.SeatingPlan.free.Goals as goal

pub invariant_of-self : goal.invariant_of-self
invariant_of-self c =
    let i = c.self.inside in
    let y : Seat = record { place = None; came = c.index_mut.result.now.came; listens = c.index_mut.result.now.listens } in
    let w = c.index.result.now in
    let l : c.args.leg < length i.seats.items = omega (arith, c.requires, ap (λ (m : State). length m.legs) c.self.view_is) in
    let f : slice_get i.seats.items c.args.leg ≡ Some w = slice_get_read i.seats.items (length i.seats.items) c.args.leg w refl l c.index.ensures in
    record {
      sixteen = length-set i.holders c.in-Some.place None ∙ c.self.invariant.sixteen;
      places = places_set i.seats.items c.args.leg y c.self.invariant.places (λ p e. cc e);
      held = holds_left i.seats.items i.holders c.args.leg c.in-Some.place w y c.self.invariant.held f c.in-Some.is refl;
      legs = legs_set i.holders c.in-Some.place (length i.seats.items) (length (set i.seats.items c.args.leg y)) None (length-set i.seats.items c.args.leg y) c.self.invariant.legs (λ k e. cc e);
      few = c.self.invariant.few;
      reach = reach_set i.holders c.in-Some.place i.reach i.reach None (omega arith) c.self.invariant.reach (λ k e. cc e);
    }

pub returns-in-Some-clause-stands : goal.returns-in-Some-clause-stands
returns-in-Some-clause-stands c = λ s table h.
    let xs = c.self.inside.seats.items in
    let x = c.index_mut.result.now in
    let w = c.index.result.now in
    let l : c.args.leg < length xs = omega (arith, c.requires, ap (λ (m : State). length m.legs) c.self.view_is) in
    let g : slice_get xs c.args.leg ≡ Some x = slice_get_read xs (length xs) c.args.leg x refl l c.index_mut.ensures.value in
    let f : slice_get xs c.args.leg ≡ Some w = slice_get_read xs (length xs) c.args.leg w refl l c.index.ensures in
    let same : Some x ≡ Some w = sym g ∙ f in
    let is : x ≡ w = cc same in
    let held : x.place ≡ Some c.in-Some.place = ap (λ (z : Seat). z.place) is ∙ c.in-Some.is in
    stands_freed s (state_of c.self.inside) table c.args.leg c.in-Some.place x (record { place = None; came = x.came; listens = x.listens }) (subst (λ (m : State). SeatingStandsFor s m table.seats) (sym c.self.view_is) h) g held
    (c.self.invariant.places c.args.leg x c.in-Some.place g held) c.self.invariant.sixteen refl

pub returns-in_default-clause-stands : goal.returns-in_default-clause-stands
returns-in_default-clause-stands c = λ s table h.
    let xs = c.self.inside.seats.items in
    let w = c.index.result.now in
    let l : c.args.leg < length xs = omega (arith, c.requires, ap (λ (m : State). length m.legs) c.self.view_is) in
    let f : slice_get xs c.args.leg ≡ Some w = slice_get_read xs (length xs) c.args.leg w refl l c.index.ensures in
    subst (λ (m : State). SeatingStandsFor s m (freed c.args.leg table).seats) c.self.view_is
    (stands_placeless s (state_of c.self.inside) table c.args.leg w (subst (λ (m : State). SeatingStandsFor s m table.seats) (sym c.self.view_is) h) f c.in_default.is)
