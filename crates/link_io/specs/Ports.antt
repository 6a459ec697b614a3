-- What stays and what changes of a thing that keeps something under each port.
use Rattle.std.specs.Prelude.{ℕ, ◌≡◌, ◌≢◌, ◌≤◌, Bool, true}
use Rattle.rtt_io.specs.Counts.{counted}

module _ {W : Type 0} where
  module _ {K : Type 0} where
    -- under each port is what was there before
    abbrev pub Same : (W → ℕ → K) → W → W → Type 0
    Same kept old new = (p : ℕ) → kept new p ≡ kept old p

    -- under each other port is what was there before
    abbrev pub SameBut : ℕ → (W → ℕ → K) → W → W → Type 0
    SameBut port kept old new = (p : ℕ) → p ≢ port → kept new p ≡ kept old p

    -- where a link was opened at this port, this is there in place of what was
    abbrev pub Replaces : (W → ℕ → Bool) → (W → ℕ → K) → ℕ → K → W → W → Type 0
    Replaces opened kept port it old new = opened old port ≡ true → kept new port ≡ it

  -- each port at which a link was opened is still one
  abbrev pub StayOpened : (W → ℕ → Bool) → W → W → Type 0
  StayOpened opened old new = (p : ℕ) → opened old p ≡ true → opened new p ≡ true

  -- the count of no port falls
  abbrev pub NoneFalls : (W → ℕ → ℕ) → W → W → Type 0
  NoneFalls count old new = (p : ℕ) → count old p ≤ count new p

  -- the count of this port has so many more faults
  abbrev pub CountsMore : (W → ℕ → ℕ) → ℕ → ℕ → W → W → Type 0
  CountsMore count port more old new = count new port ≡ counted (count old port) more

  -- where a link was opened at this port, no other port's count changes
  abbrev pub CountsNoOther : (W → ℕ → Bool) → (W → ℕ → ℕ) → ℕ → W → W → Type 0
  CountsNoOther opened count port old new = opened old port ≡ true → SameBut port count old new
