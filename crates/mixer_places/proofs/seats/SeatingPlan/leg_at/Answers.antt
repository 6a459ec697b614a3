use Rattle.std.proofs.Common.{◌<◌, length, subst, arith}
use Rattle.std.specs.Prelude.{slice_index_or, IfSome, None}
use Rattle.mixer_places.specs.States.{State}
use Rattle.mixer_places.proofs.Keeping.{some_within}
use Rattle.mixer_places.proofs.seats.SeatingPlan.leg_at.Goals as goal

pub returns-clause-within : goal.returns-clause-within
returns-clause-within c =
    subst (λ (m : State). IfSome (slice_index_or c.self.inside.holders c.args.place None) (λ leg. leg < length m.legs)) c.self.view_is
    (some_within c.self.inside.holders c.args.place (length c.self.inside.seats.items) c.self.invariant.legs (omega (arith, c.requires, c.self.invariant.sixteen)))
