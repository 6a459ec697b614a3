-- What lies under the names of the inputs of legs, and which readings of them did not fail. Legs are counted from 0.
use Rattle.std.specs.Prelude.{◌≡◌, ℕ, ◌<◌, ◌≤◌, Some, IsSome, unwrap_or, List, [], length, map}
use Rattle.file_spec.specs.declared.conference_lines.LegLine.{LegLine}
use Rattle.mixer_spec.specs.Setups.{leg_at}
use Rattle.command_spec.specs.Work.{Contents}

-- ---- what lies there
abbrev pub octets_under : Contents → List ℕ → List ℕ
octets_under held name = unwrap_or (held name) []

-- the octets of the inputs of these legs
abbrev pub inputs_under : Contents → List LegLine → List (List ℕ)
inputs_under held legs = map (λ leg. octets_under held leg.input) legs

-- something lies under the input of each of the first n legs
abbrev pub LieBelow : ℕ → Contents → List LegLine → Type 0
LieBelow n held legs = (k : ℕ) (leg : LegLine) → k < n → leg_at legs k ≡ Some leg → IsSome (held leg.input)

-- and under that of each
abbrev pub AllLie : Contents → List LegLine → Type 0
AllLie held legs = LieBelow (length legs) held legs

-- ---- counts of faults
-- no leg with the number n or a greater one has this input
abbrev pub NoneReads : ℕ → List LegLine → List ℕ → Type 0
NoneReads n legs name = (k : ℕ) (leg : LegLine) → n ≤ k → leg_at legs k ≡ Some leg → leg.input ≡ name → ⊥

-- No reading for one of the first n legs failed: each name that no other leg reads has its old count.
abbrev pub NoneFailedBelow : ℕ → List LegLine → (List ℕ → ℕ) → (List ℕ → ℕ) → Type 0
NoneFailedBelow n legs old new = (name : List ℕ) → NoneReads n legs name → new name ≡ old name

-- no reading failed: each name has its old count
abbrev pub NoneFailedAtAll : (List ℕ → ℕ) → (List ℕ → ℕ) → Type 0
NoneFailedAtAll old new = (name : List ℕ) → new name ≡ old name
