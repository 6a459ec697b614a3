-- Ports with which nothing is done before a turn.
use Rattle.std.specs.Prelude.{◌≡◌, ◌<◌, ℕ, true, false, Some, List, slice_get}
use Rattle.mix_loop.specs.declared.ports.Port.{Port}
use Rattle.mix_loop.specs.Items.{is_open}
use Rattle.mix_loop.specs.Ports.{is_away, is_to_stop, is_to_leave}
use Rattle.mix_loop.specs.Steps.{are_empty}

module _ {I F : Type 0} where
  -- At the moment t its leg neither comes nor goes, and has nothing to offer: its chunk is not ready yet, or no more comes.
  pub record IsCalm (t : ℕ) (p : Port I F) : Type 0 where
    pub waits : p.full ≡ true → t < p.hand.ready
    pub ended : p.full ≡ false → is_open p.ended ≡ false
    pub early : is_away p.seat ≡ true → t < p.stay.from
    pub stays : is_to_stop t p ≡ false
    pub keeps : is_to_leave p ≡ false

  -- so it is at each moment before this one
  abbrev pub IsCalmBefore : ℕ → Port I F → Type 0
  IsCalmBefore moment p = (t : ℕ) → t < moment → IsCalm t p

  -- so it is with all of them, and some leg has a chunk in hand
  pub record AreCalm (t : ℕ) (ps : List (Port I F)) : Type 0 where
    pub each : (j : ℕ) (p : Port I F) → slice_get ps j ≡ Some p → IsCalm t p
    pub some : are_empty ps ≡ false

  abbrev pub AreCalmBefore : ℕ → List (Port I F) → Type 0
  AreCalmBefore moment ps = (t : ℕ) → t < moment → AreCalm t ps
