-- What a clause says of all recordings of a call.
use Rattle.std.specs.Prelude.{◌≡◌, ◌≢◌, ℕ, Option, None, Some, List, [], ◌∷◌, length, slice_get}
use Rattle.rtt_io.specs.declared.sinks.Sink as sinks
use Rattle.recorded_links.specs.declared.calls.CallTrack.{CallTrack}
use Rattle.recorded_links.specs.declared.rule.NotedEntry.{NotedEntry}
use Rattle.recorded_links.specs.Names.{numbered}
use Rattle.recorded_links.specs.Standing.{Keeping}
use Rattle.recorded_links.specs.Written.{HasTaken}

-- files of the one have other names than those of the other
abbrev pub StemsDiffer : List ℕ → List ℕ → Type 0
StemsDiffer one other = (k l : ℕ) → numbered one k ≢ numbered other l

-- its last octet; 0 where there is none
abbrev pub last_of : List ℕ → ℕ
last_of [] = 0
last_of (x ∷ []) = x
last_of (x ∷ y ∷ xs) = last_of (y ∷ xs)

-- no two have a name in common
abbrev pub HaveOwnNames : List CallTrack → Type 0
HaveOwnNames rs = (i j : ℕ) (r s : CallTrack) → slice_get rs i ≡ Some r → slice_get rs j ≡ Some s → i ≢ j
    → StemsDiffer r.stem s.stem

-- there is a first file of each, whose name goes on behind a point
abbrev pub AreThere : (List ℕ → Option (List ℕ)) → List CallTrack → Type 0
AreThere contents rs = (j : ℕ) (r : CallTrack) → slice_get rs j ≡ Some r
    → (contents (numbered r.stem 1) ≢ None) × (last_of r.stem ≡ 46)

-- what lies under names that are no names of these recordings' files stays
abbrev pub TouchesThese : List CallTrack → (before after : List ℕ → Option (List ℕ)) → Type 0
TouchesThese rs before after = (n : List ℕ)
    → ((j : ℕ) (r : CallTrack) → slice_get rs j ≡ Some r → (k : ℕ) → n ≢ numbered r.stem k) → after n ≡ before n

module _ {F T : Type 0} where
  -- no two have a name in common
  abbrev pub AreApart : List T → (T → Keeping F) → Type 0
  AreApart ts recorder = (i j : ℕ) (t u : T) → slice_get ts i ≡ Some t → slice_get ts j ≡ Some u → i ≢ j
      → StemsDiffer (recorder t).stem (recorder u).stem

  -- as many, each with the names and the start that it had
  pub record SameNames (old new : List T) (recorder : T → Keeping F) : Type 0 where
    pub many : length new ≡ length old
    pub stems : (j : ℕ) (t u : T) → slice_get old j ≡ Some t → slice_get new j ≡ Some u
        → (recorder u).stem ≡ (recorder t).stem
    pub starts : (j : ℕ) (t u : T) → slice_get old j ≡ Some t → slice_get new j ≡ Some u
        → (recorder u).start ≡ (recorder t).start

module _ {F T : Type 0} (g : sinks.Ghosts F) where
  -- each has all that was taken away from its shelf
  abbrev pub AllHave : (List ℕ → Option (List ℕ)) → List T → (T → Keeping F) → (T → List NotedEntry) → Type 0
  AllHave contents ts recorder taken = (j : ℕ) (t : T) → slice_get ts j ≡ Some t
      → HasTaken g contents (recorder t) (taken t)

  -- where no two have a name in common, and each had all that was taken away from its shelf, each has
  abbrev pub AllHaveStill : (before after : List ℕ → Option (List ℕ)) → (old new : List T) → (T → Keeping F)
      → (T → List NotedEntry) → Type 0
  AllHaveStill before after old new recorder taken = AreApart old recorder → AllHave before old recorder taken
      → AllHave after new recorder taken
