use Rattle.std.proofs.Common.{subst, sym}
use Rattle.mixer_places.specs.Insides.{state_of}
use Rattle.mixer_places.specs.States.{State}
use Rattle.mixer_places.specs.SeatStanding.{SeatingStandsFor}
use Rattle.mixer_places.proofs.Keeping.{vacant_from}
use Rattle.mixer_places.proofs.seats.SeatingPlan.reach.Goals as goal

pub returns-clause-vacant : goal.returns-clause-vacant
returns-clause-vacant c = λ s table h.
    vacant_from s (state_of c.self.inside) table c.self.inside.reach (subst (λ (m : State). SeatingStandsFor s m table.seats) (sym c.self.view_is) h) c.self.invariant.reach
