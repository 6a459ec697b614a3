use Rattle.std.proofs.Common.{◌≡◌, false, None, List, replicate, ap, sym, ◌∙◌, arith}
use Rattle.std.specs.Prelude.{slice_get}
use Rattle.mixer_places.specs.declared.seats.Seat.{Seat}
use Rattle.mixer_places.proofs.Keeping.{stands_new, all_same, get_replicated}
use Rattle.mixer_places.proofs.Few.{none_replicated, vacant_replicated}
use Rattle.mixer_places.proofs.seats.SeatingPlan.new.Goals as goal

pub returns-clause-stands : goal.returns-clause-stands
returns-clause-stands c = λ s e f.
    let empty : Seat = record { place = None; came = false; listens = false } in
    let all : c.in_ok-seats.seats.items ≡ replicate c.args.legs empty = c.in_ok-seats.ensures.items_if_clones_equal (λ y q. q) in
    stands_new s (record { legs = c.in_ok-seats.seats.items; places = replicate 16 None }) f (omega (arith, c.in_ok-seats.seats.ok, c.in_ok-seats.ensures.len)) (λ i x g. all_same c.args.legs empty i x (sym (ap (λ (xs : List Seat). slice_get xs i) all) ∙ g)) (λ p l. get_replicated 16 p None l)

pub invariant_of-result : goal.invariant_of-result
invariant_of-result c =
    let empty : Seat = record { place = None; came = false; listens = false } in
    let all : c.in_ok-seats.seats.items ≡ replicate c.args.legs empty = c.in_ok-seats.ensures.items_if_clones_equal (λ y q. q) in
    record {
      sixteen = omega arith;
      places = λ k x p g e. absurd (none_replicated c.args.legs c.in_ok-seats.seats.items all k x p g e);
      held = λ k x p g e. absurd (none_replicated c.args.legs c.in_ok-seats.seats.items all k x p g e);
      legs = λ p k e. absurd (vacant_replicated 16 p k e);
      few = omega arith;
      reach = λ p k e. absurd (vacant_replicated 16 p k e);
    }
