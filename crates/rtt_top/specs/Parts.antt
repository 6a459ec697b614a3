-- What was written before the files that it belongs to are made.
use Rattle.std.specs.Prelude.{◌≡◌, ◌<◌, ◌⊎◌, ℕ, List, [], Option, Some, IfSome, slice_get, slice_index_or}
use Rattle.sent_log.specs.States.{State}
use Rattle.sent_log.specs.Files.{recording_at}

module _ {P : Type 0} where
  -- each of so many parts took the recording of what was sent to the terminal of its number, where it is there
  abbrev pub EachTook : (P → List ℕ) → State → ℕ → List (Option P) → Type 0
  EachTook took log count parts = (n : ℕ) (d : Option P) → n < count
      → IfSome (slice_index_or parts n d) (λ part. took part ≡ recording_at log n)

  -- each part that is there still took the recording of what was sent to the terminal of its number
  abbrev pub HaveTaken : (P → List ℕ) → State → List (Option P) → Type 0
  HaveTaken took log parts = (n : ℕ) (part : P) → slice_get parts n ≡ Some (Some part) → took part ≡ recording_at log n

  -- these are all of them, or none
  abbrev pub IsAllOrNone : (all kept : List (Option P)) → Type 0
  IsAllOrNone all kept = (kept ≡ all) ⊎ (kept ≡ [])

  -- the part of this number is taken from among these
  pub record TakesPart (old new : List (Option P)) (n : ℕ) (taken : Option P) : Type 0 where
    pub was : IfSome taken (λ part. slice_get old n ≡ Some (Some part))
    pub others : (k : ℕ) (part : P) → slice_get new k ≡ Some (Some part) → slice_get old k ≡ Some (Some part)
