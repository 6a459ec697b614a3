-- What is seen at an aware terminal that hears all as it was sent.
use Rattle.std.specs.Prelude.{◌≡◌, ℕ, List, [], ◌∷◌, length, slice_index_or}
use Rattle.std.specs.List.{concat}
use Rattle.stream_spec.specs.Own.{Sent}
use Rattle.view_spec.specs.Shown.{shown}
use Rattle.view_spec.specs.Views.{Source, aware_view}
use Rattle.file_spec.specs.declared.conference_lines.LegLine.{LegLine}
use Rattle.file_spec.specs.Conference.{Conference}
use Rattle.mixer_spec.specs.Arrives.{came}
use Rattle.command_spec.specs.Mixing.{reception_of}
use Rattle.sent_log.specs.States.{OfTerminal, State, recording_of, said, sents}
use Rattle.terminal.specs.Terminals.{all_used}
use Rattle.playback.specs.Written.{IsWrittenOf}
use Rattle.playback.specs.Whole.{IsHeardAsSent}

-- the sources of these names and SSRCs, and what they show of what was sent of them
abbrev pub said_of : List (List ℕ) → List ℕ → List Sent → List Source
said_of [] ss past = []
said_of (name ∷ names) [] past = []
said_of (name ∷ names) (s ∷ ss) past = record { name = name; display = shown (said s past) } ∷ said_of names ss past

-- This is the view of the terminal of the leg j, of sources of these SSRCs and names, where these records came to it: this is what was
-- sent, and all is heard as it was sent.
pub record IsSeenAsSent (c : Conference) (j : ℕ) (leg : LegLine) (sources : List ℕ) (names : List (List ℕ)) (past : List Sent) (records : List (ℕ × List ℕ)) (view : List ℕ) : Type 0 where
  pub heard : IsHeardAsSent (reception_of c leg) past (came c.plan j records)
  pub view_is : view ≡ aware_view leg.name (said_of names sources past) (all_used (length past))

-- so it is of what the log has for the terminal of the leg j
abbrev pub IsSentView : Conference → ℕ → State → List ℕ → List (List ℕ) → List (List ℕ) → Type 0
IsSentView c j log sources names pieces = OfTerminal log j (λ x. (records : List (ℕ × List ℕ)) (d : LegLine) → IsWrittenOf (recording_of x) records
    → IsSeenAsSent c j (slice_index_or c.legs j d) sources names (sents x.sent) records (concat pieces))
