-- Runs that would be told with a status that means something else: none is one, whatever the world tells.
use Rattle.std.specs.Prelude.{ℕ, Some}
use Rattle.command_spec.specs.Outcomes.{IsDone}
use Rattle.rtt_words.specs.Words.{ReadWords, MakeWords, MixWords, Read, Make, Mix}
use Rattle.rtt_top.specs.Outside.{Outside, Output}
use Rattle.rtt_top.specs.Runs.{NoneFailed, Prints, Runs, outcome_of}

-- `make` ends with no 5 or 6, `read` with no 9; at 0 `make` has printed its line, as far as the output tells; and where `mix` ends
-- with 9, no source failed.
pub record AreShut (WorldTells OutTells ErrTells : Type 0) (old new : Outside) (before after : Output) : Type 0 where
  pub no_recording : (m : MakeWords) → Runs (Some (Make m)) WorldTells OutTells ErrTells old new before after 6 → ⊥
  pub no_line : (m : MakeWords) → Runs (Some (Make m)) WorldTells OutTells ErrTells old new before after 5 → ⊥
  pub no_turns : (r : ReadWords) → Runs (Some (Read r)) WorldTells OutTells ErrTells old new before after 9 → ⊥
  pub printed : (m : MakeWords) → OutTells → Runs (Some (Make m)) WorldTells OutTells ErrTells old new before after 0
      → IsDone (outcome_of (Make m) old) (λ printed files. Prints printed old new)
  pub none_failed : (m : MixWords) → Runs (Some (Mix m)) WorldTells OutTells ErrTells old new before after 9 → NoneFailed old new

abbrev pub LoopholesStayShut : (WorldTells OutTells ErrTells : Type 0) → Type 0
LoopholesStayShut WorldTells OutTells ErrTells = (old new : Outside) (before after : Output) → AreShut WorldTells OutTells ErrTells old new before after
