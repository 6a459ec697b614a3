-- What schedulers and slots tell of the tables for which they stand.
use Rattle.std.specs.Prelude.{◌≡◌, ◌==◌, ◌||◌, not, ℕ, Bool, Some, List, slice_get}
use Rattle.mixer_spec.specs.Setups.{Setup}
use Rattle.mixer_spec.specs.Table.{Table, Terminal, has_work}
use Rattle.mixer_places.specs.Lanes.{Waiting}
use Rattle.mixer_places.specs.SlotStanding as slots
use Rattle.terminal_scheduler.specs.declared.schedulers.TerminalScheduler.{TerminalScheduler}
use Rattle.terminal_scheduler.specs.Schedulers.{legs_of}
use Rattle.mixer.specs.Standing.{AreSchedulers}

-- each is of so many legs
abbrev pub AreAll : ℕ → List TerminalScheduler → Type 0
AreAll legs all = (j : ℕ) (o : TerminalScheduler) → slice_get all j ≡ Some o → legs_of o ≡ legs

-- of each such table
abbrev pub OfTables : List TerminalScheduler → List Waiting → (Setup → Table → Type 0) → Type 0
OfTables all waiting P = (s : Setup) (table : Table) → AreSchedulers s all table.terminals
    → slots.SlotsStandFor s waiting table → P s table

-- the terminal j is the leg's own, or nothing of the leg waits or is to be repeated there
abbrev pub is_free_of : Setup → ℕ → ℕ → Terminal → Bool
is_free_of s leg j d = (j == leg) || not (has_work s j d leg)
