-- What stays and what changes of a thing that keeps something under each name.
use Rattle.std.specs.Prelude.{ℕ, ◌≡◌, ◌≢◌, ◌≤◌, List, Option, Some, IsSome}
use Rattle.rtt_io.specs.Counts.{counted}

module _ {W : Type 0} where
  module _ {K : Type 0} where
    -- under each name is what was there before
    abbrev pub Same : (W → List ℕ → K) → W → W → Type 0
    Same kept old new = (n : List ℕ) → kept new n ≡ kept old n

    -- under each other name is what was there before
    abbrev pub SameBut : List ℕ → (W → List ℕ → K) → W → W → Type 0
    SameBut name kept old new = (n : List ℕ) → n ≢ name → kept new n ≡ kept old n

  -- the count of no name falls
  abbrev pub NoneFalls : (W → List ℕ → ℕ) → W → W → Type 0
  NoneFalls count old new = (n : List ℕ) → count old n ≤ count new n

  -- the count of this name has so many more faults
  abbrev pub CountsMore : (W → List ℕ → ℕ) → List ℕ → ℕ → W → W → Type 0
  CountsMore count name more old new = count new name ≡ counted (count old name) more

  -- where something is under this name, no other name's count changes
  abbrev pub CountsNoOther : (W → List ℕ → Option (List ℕ)) → (W → List ℕ → ℕ) → List ℕ → W → W → Type 0
  CountsNoOther contents count name old new = IsSome (contents old name) → SameBut name count old new

  -- where something was under this name, these octets are there in its place
  abbrev pub Replaces : (W → List ℕ → Option (List ℕ)) → List ℕ → List ℕ → W → W → Type 0
  Replaces contents name octets old new =
      IsSome (contents old name) → contents new name ≡ Some octets
