use Rattle.std.proofs.Common.{◌≤◌, length, subst, arith}
use Rattle.mixer_spec.specs.Rounds.{count_below}
use Rattle.mixer_places.specs.Insides.{state_of}
use Rattle.mixer_places.specs.Places.{has_place}
use Rattle.mixer_places.specs.States.{State}
use Rattle.mixer_places.proofs.Few.{few_places}
use Rattle.mixer_places.proofs.seats.SeatingPlan.is_seated.Goals as goal

pub returns-clause-few : goal.returns-clause-few
returns-clause-few c =
    let few = few_places (state_of c.self.inside) c.self.invariant.held in
    subst (λ (m : State). count_below (has_place m) (length m.legs) ≤ 16) c.self.view_is (omega (arith, few, c.self.invariant.sixteen))
