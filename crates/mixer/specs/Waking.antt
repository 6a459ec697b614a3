-- What schedulers stand for where text may have come to their terminals.
use Rattle.std.specs.Prelude.{◌≡◌, ℕ, ◌<◌, ◌≤◌, Some, List, length, slice_get}
use Rattle.terminal_scheduler.specs.declared.schedulers.TerminalScheduler.{TerminalScheduler}
use Rattle.terminal_scheduler.specs.Schedulers.{StandsWoken, own_of, legs_of, next_turn, sources_of}

-- it stands for the same terminal, whatever waits there
pub record IsWoken (old new : TerminalScheduler) : Type 0 where
  pub stands : StandsWoken old new
  pub own : own_of new ≡ own_of old
  pub legs : legs_of new ≡ legs_of old
  pub sources : sources_of new ≡ sources_of old
  pub next : next_turn new ≡ next_turn old

-- each of the first n, and the others are as they were
pub record AreWokenBelow (n : ℕ) (old new : List TerminalScheduler) : Type 0 where
  pub count : length new ≡ length old
  pub first : (j : ℕ) (o : TerminalScheduler) → j < n → slice_get new j ≡ Some o
      → (p : TerminalScheduler) × (slice_get old j ≡ Some p) × IsWoken p o
  pub rest : (j : ℕ) (o : TerminalScheduler) → n ≤ j → slice_get new j ≡ Some o → slice_get old j ≡ Some o

abbrev pub AreWoken : List TerminalScheduler → List TerminalScheduler → Type 0
AreWoken old new = AreWokenBelow (length old) old new
