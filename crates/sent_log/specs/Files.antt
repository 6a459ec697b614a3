-- What was sent to each terminal, as recordings (profile).
use Rattle.std.specs.Prelude.{◌≡◌, ℕ, Some, List, [], length, map, slice_get, slice_index_or}
use Rattle.sent_log.specs.declared.pens.Pen.{Pen}
use Rattle.sent_log.specs.Pens.{IsPenTo}
use Rattle.sent_log.specs.States.{Sending, State, recording_of}

-- the recordings, by terminal
abbrev pub recordings_of : State → List (List ℕ)
recordings_of log = map recording_of log

-- the recording of what was sent to the terminal with this number
abbrev pub recording_at : State → ℕ → List ℕ
recording_at log terminal = slice_index_or (recordings_of log) terminal []

-- for each terminal a pen to it
pub record ArePensTo (log : State) (pens : List Pen) : Type 0 where
  pub each : length pens ≡ length log
  pub stand : (terminal : ℕ) (x : Sending) (p : Pen) → slice_get log terminal ≡ Some x
      → slice_get pens terminal ≡ Some p → IsPenTo x p
