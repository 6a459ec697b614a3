-- What is concluded of a run of `mix` that ended with 0, from `Runs` alone.
use Rattle.std.specs.Prelude.{ℕ, Some, ◌++◌}
use Rattle.stream_spec.specs.History.{History}
use Rattle.mixer_spec.specs.Setups.{AllStay}
use Rattle.mixer_spec.specs.Bridged.{IsPair}
use Rattle.command_spec.specs.Mixing.{counted}
use Rattle.command_spec.specs.Bridges.{Bridge, IsFrom, IsMixedFrom, cut_by, inward, onward_from, setup_of, views_behind}
use Rattle.rtt_words.specs.Words.{MixWords, Mix}
use Rattle.rtt_top.specs.Outside.{Outside, Output}
use Rattle.rtt_top.specs.Runs.{Prints, Runs}
use Rattle.promise_tests.specs.Typed.{IsAllTyped, IsOnlyPieces}

-- of the conference that lay in files, what each aware terminal j hears of each other leg i, of whom the history h was sent
pub record TellsWhatWasTyped (OutTells : Type 0) (m : MixWords) (old new : Outside) : Type 0 where
  pub bridge : Bridge
  pub mixed : IsMixedFrom old.contents m.conference bridge
  pub prints : OutTells → Prints (views_behind bridge ++ counted bridge.conference bridge.inputs) old new
  pub only : (j i : ℕ) → IsPair (setup_of bridge) j i → (h : History) → IsFrom bridge i h
      → IsOnlyPieces (cut_by bridge) (inward bridge i h) (onward_from bridge j i)
  pub whole : AllStay (setup_of bridge) → (j i : ℕ) → IsPair (setup_of bridge) j i → (h : History) → IsFrom bridge i h
      → IsAllTyped (inward bridge i h) (onward_from bridge j i)

abbrev pub MixTellsWhatWasTyped : (WorldTells OutTells ErrTells : Type 0) → Type 0
MixTellsWhatWasTyped WorldTells OutTells ErrTells =
    (old new : Outside) (before after : Output) (m : MixWords)
    → WorldTells
    → Runs (Some (Mix m)) WorldTells OutTells ErrTells old new before after 0
    → TellsWhatWasTyped OutTells m old new
