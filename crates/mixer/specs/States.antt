-- What is known of a mixer.
use Rattle.std.specs.Prelude.{ℕ, ◌+◌, Option, None, Some, List, length, map}
use Rattle.mixer_places.specs.Lanes.{Waiting}
use Rattle.mixer_places.specs.States as seatings
use Rattle.terminal_scheduler.specs.declared.schedulers.TerminalScheduler.{TerminalScheduler}
use Rattle.terminal_scheduler.specs.Schedulers as schedulers

-- who holds which place, what waits, the terminal_scheduler and the name of each leg, the media time of the last turn,
-- and how many turns were made
pub record State : Type 0 where
  pub seating : seatings.State
  pub slots : List Waiting
  pub schedulers : List TerminalScheduler
  pub names : List (List ℕ)
  pub media : Option ℕ
  pub turns : ℕ

abbrev pub legs_of : State → ℕ
legs_of m = length m.schedulers

-- how many sources the terminal of each leg is sent
abbrev pub sources_of : State → List ℕ
sources_of m = map schedulers.sources_of m.schedulers

-- the least media time of the turn after one at this media time
abbrev pub least_media : Option ℕ → ℕ
least_media None = 0
least_media (Some t) = t + 1
