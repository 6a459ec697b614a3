-- The fields of the terminal_scheduler of a terminal that is not aware.
use Rattle.std.specs.Prelude.{◌≡◌, ◌<◌}
use Rattle.unaware_view.specs.Standing as composers
use Rattle.terminal_scheduler.specs.declared.unaware.UnawareScheduler.TheInside.{Inside}
use Rattle.terminal_scheduler.specs.UnawareStates.{UnawareState}

abbrev pub state_of : Inside → UnawareState
state_of o = record { composer = o.composer; generations = o.generations; left = o.left; spacing = o.spacing; free_at = o.free_at; none_waits = o.none_waits }

-- its own leg and the number of legs are those of the composer
pub record UnawareIsSound (o : Inside) : Type 0 where
  pub own_is : o.composer.own ≡ o.own
  pub legs_are : composers.legs_of o.composer ≡ o.legs
  pub below : o.own < o.legs
