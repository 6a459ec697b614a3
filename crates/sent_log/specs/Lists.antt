-- Lists that grow at their end, and what stands in them.
use Rattle.std.specs.Prelude.{◌≡◌, ◌+◌, ◌-◌, ◌≤◌, ℕ, List, [], ◌++◌, drop, length, slice_index_or, take}

-- what was there is still there, at the same place
abbrev pub Grows : {X : Type 0} → List X → List X → Type 0
Grows {X} old new = (more : List X) × (new ≡ old ++ more)

-- the list with this number, which is empty where there is none
abbrev pub list_at : List (List ℕ) → ℕ → List ℕ
list_at lists n = slice_index_or lists n []

-- no list is gone, and each grew
pub record EachGrows (old new : List (List ℕ)) : Type 0 where
  pub count : length old ≤ length new
  pub each : (n : ℕ) → Grows (list_at old n) (list_at new n)

-- so many octets from a place on
abbrev pub octets_at : List ℕ → (place len : ℕ) → List ℕ
octets_at octets place len = take len (drop place octets)

-- the text stands at this place
pub record StandsAt (octets : List ℕ) (place : ℕ) (text : List ℕ) : Type 0 where
  pub within : place + length text ≤ length octets
  pub is : octets_at octets place (length text) ≡ text

-- the text and what stands from this place on are the same, as far as both go
pub record Agrees (octets : List ℕ) (place : ℕ) (text : List ℕ) : Type 0 where
  pub within : place ≤ length octets
  pub same : octets_at octets place (length text) ≡ take (length octets - place) text
