-- What is known of who notes, as links are opened and handed back.
use Rattle.std.specs.Prelude.{◌≡◌, ◌≢◌, ◌⊎◌, ℕ, Bool, true, false, Option, None, Some, IfSome, List, Contains, slice_get}
use Rattle.stream_spec.specs.Links.{Takes}
use Rattle.recorded_links.specs.declared.calls.CallTrack.{CallTrack}
use Rattle.recorded_links.specs.declared.names.Way.{Way}
use Rattle.recorded_links.specs.declared.names.Way.TheVariants.{In, Out}
use Rattle.recorded_links.specs.declared.noter_places.NoterPlace.{NoterPlace}
use Rattle.recorded_links.specs.declared.noters.Noter.{Noter}
use Rattle.recorded_links.specs.declared.passes.NotePass.{NotePass}
use Rattle.recorded_links.specs.declared.rule.NotedEntry.{NotedEntry}
use Rattle.recorded_links.specs.Calls.{WaitsOn}
use Rattle.recorded_links.specs.Coming.{AreGiven, takes_noted}
use Rattle.recorded_links.specs.Ended.{HoldsAll, IsUnopened}
use Rattle.recorded_links.specs.Shelves.{noted}

module _ {R : Type 0} where
  -- it is the place of one of these recordings
  pub record IsPlaceIn (rs : List CallTrack) (p : NoterPlace R) : Type 0 where
    pub at : (r : CallTrack) → slice_get rs p.number ≡ Some r → (r.port ≡ p.port) × (r.way ≡ p.way)
    pub shelf : IfSome p.noter (λ n. WaitsOn rs p.number n.pass)

  -- Before a link was opened at its port none was, since so many were. Then who notes, where it is back, noted what is stored at the port.
  pub record IsKept (ends : Type 0) (opened : ℕ → Bool) (before : ℕ) (leads : List (ℕ × List ℕ)) (taken_at : ℕ → Takes)
      (given_at : ℕ → List (ℕ × List ℕ)) (p : NoterPlace R) : Type 0 where
    pub unopened : p.given ≡ false → IsUnopened before p.port leads
    pub was_opened : p.given ≡ true → opened p.port ≡ true
    pub tell : p.given ≡ true → ∥ ends ∥₁
    pub came : p.given ≡ true → p.way ≡ In
        → IfSome p.noter (λ n. n.over ≡ false → noted n.pass ≡ takes_noted (taken_at p.port))
    pub went : p.given ≡ true → p.way ≡ Out
        → IfSome p.noter (λ n. n.over ≡ false → AreGiven (noted n.pass) (given_at p.port))

  -- it is the same place
  abbrev pub IsSamePlace : NoterPlace R → NoterPlace R → Type 0
  IsSamePlace old new = (new.number ≡ old.number) × ((new.port ≡ old.port) × (new.way ≡ old.way))

  -- its link was opened, and has who notes; or it is of another port, or its link was opened before
  abbrev pub IsGivenOut : (port : ℕ) → NoterPlace R → NoterPlace R → Type 0
  IsGivenOut port old new =
      ((new ≡ old) × (old.given ≡ false → old.port ≢ port))
      ⊎ (IsSamePlace old new × ((old.port ≡ port) × ((new.given ≡ true) × (new.noter ≡ None))))

  -- At an end of this port and way that comes back is who notes, or somebody else; or the place is of another port or way, or its link was
  -- not opened.
  abbrev pub IsHadBack : (port : ℕ) → Way → Option (Noter R) → NoterPlace R → NoterPlace R → Type 0
  IsHadBack port way noter old new =
      ((new ≡ old) × (old.given ≡ true → old.port ≡ port → old.way ≢ way))
      ⊎ (IsSamePlace old new × ((old.port ≡ port) × ((old.way ≡ way) × ((old.given ≡ true) × ((new.given ≡ true)
      × ((new.noter ≡ None) ⊎ (new.noter ≡ noter)))))))

  -- who notes of the recording of this number is there, was never over, and has this end
  abbrev pub IsWholeOf : Option (NoterPlace R) → ℕ → NotePass → Type 0
  IsWholeOf place number pass = (p : NoterPlace R) × (n : Noter R) × (place ≡ Some p) × (p.number ≡ number)
      × (p.noter ≡ Some n) × (n.over ≡ false) × (n.pass ≡ pass)

  -- who notes of the recording of this number is there, and of what was noted this holds, which is all
  abbrev pub HasWhole : Option (NoterPlace R) → ℕ → (List NotedEntry → Type 0) → Type 0
  HasWhole place number Q = (p : NoterPlace R) × (n : Noter R) × (place ≡ Some p) × (p.number ≡ number)
      × (p.noter ≡ Some n) × (n.over ≡ false) × Q (noted n.pass)

  -- the same at one of these places
  abbrev pub HasWholeIn : List (NoterPlace R) → ℕ → (List NotedEntry → Type 0) → Type 0
  HasWholeIn places number Q = (p : NoterPlace R) × (n : Noter R) × Contains places p × (p.number ≡ number)
      × (p.noter ≡ Some n) × (n.over ≡ false) × Q (noted n.pass)

  -- of each of these recordings all that was noted is in its files
  abbrev pub AreWhole : List CallTrack → List (NoterPlace R) → (List ℕ → Option (List ℕ)) → Type 0
  AreWhole rs places contents = (j : ℕ) (r : CallTrack) → slice_get rs j ≡ Some r
      → HasWholeIn places j (HoldsAll r.stem r.start contents)
