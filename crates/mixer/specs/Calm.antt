-- Terminals at which a turn changes nothing.
use Rattle.std.specs.Prelude.{◌≡◌, ℕ, true, Some, List, slice_get}
use Rattle.mixer_places.specs.States.{State}
use Rattle.mixer_places.specs.Places.{has_place}
use Rattle.terminal_scheduler.specs.declared.schedulers.TerminalScheduler.{TerminalScheduler}
use Rattle.terminal_scheduler.specs.Schedulers.{IsCalmBefore}

-- at each whose leg holds a place no turn before this media time changes anything
abbrev pub AreCalmBefore : ℕ → State → List TerminalScheduler → Type 0
AreCalmBefore calm seating all = (j : ℕ) (o : TerminalScheduler) → slice_get all j ≡ Some o
    → has_place seating j ≡ true → IsCalmBefore calm o
