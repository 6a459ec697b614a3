-- The fields of the terminal_scheduler of an aware terminal.
use Rattle.std.specs.Prelude.{◌≡◌, ◌≤◌, ◌<◌, length}
use Rattle.mixer_spec.specs.Setups.{IsRoom}
use Rattle.terminal_scheduler.specs.declared.aware.AwareScheduler.TheInside.{Inside}
use Rattle.terminal_scheduler.specs.AwareStates.{AwareState}
use Rattle.mixer_spec.specs.declared.limits.TheConstants.{PLACES}

abbrev pub state_of : Inside → AwareState
state_of o = record { own = o.own; room = o.room; spacing = o.spacing; generations = o.generations; left = o.left.items; free_at = o.free_at.items; next = o.next; calm = o.calm }

-- each leg has a count and a moment
pub record AwareIsSound (o : Inside) : Type 0 where
  pub legs : length o.left.items ≡ length o.free_at.items
  pub own : o.own < length o.free_at.items
  pub room : IsRoom o.room
  pub next : o.next ≤ PLACES
