-- What mixing a conference comes to of which some legs are read from splits. Legs are counted from 0.
use Rattle.std.specs.Prelude.{◌≡◌, ◌≤◌, ℕ, false, true, Some, Result, Ok, Err, List}
use Rattle.rtpdump_io.specs.Reading.{is_of_source}
use Rattle.file_spec.specs.declared.conference_lines.LegLine.{LegLine}
use Rattle.file_spec.specs.Conference.{Conference}
use Rattle.mixer_spec.specs.Setups.{leg_at}
use Rattle.command_spec.specs.Work.{Contents}
use Rattle.command_spec.specs.Cascading.{is_on_trunk}
use Rattle.rtt_mix.specs.declared.results.MixFault.{MixFault}
use Rattle.rtt_mix.specs.declared.results.MixFault.TheVariants.{Open, Dump, TooLong, NoMemory}
use Rattle.rtt_mix.specs.declared.results.Mixed.{Mixed}
use Rattle.rtt_mix.specs.Answered.{AreMixed, MixesTo}
use Rattle.rtt_mix.specs.Mixes.{RoseAt}
use Rattle.cascade.specs.Texts.{AllOwnLie, OwnLieBelow, texts_of}
use Rattle.cascade.specs.Feeding.{OfOwn}

-- it is what the conference comes to of these splits and of what lies there
abbrev pub MixesFed : Contents → List (List ℕ) → Conference → Result Mixed MixFault → Type 0
MixesFed held recordings c (Ok mixed) = AllOwnLie held c.legs × AreMixed c (texts_of held c.legs recordings) mixed
MixesFed held recordings c (Err (Open leg)) = OwnLieBelow leg held c.legs
MixesFed held recordings c (Err (Dump leg fault)) = AllOwnLie held c.legs × MixesTo c (texts_of held c.legs recordings) (Err (Dump leg fault))
MixesFed held recordings c (Err TooLong) = AllOwnLie held c.legs × MixesTo c (texts_of held c.legs recordings) (Err TooLong)
MixesFed held recordings c (Err NoMemory) = Unit {0}

-- Which leg could not be opened or read; `Call` and `Object` tell of which names a call or an object failed. No split fails.
abbrev pub IsCaused : (Call Object : List ℕ → Type 0) → List LegLine → Result Mixed MixFault → Type 0
IsCaused Call Object legs (Ok mixed) = Unit {0}
IsCaused Call Object legs (Err (Open k)) = (leg : LegLine) × (leg_at legs k ≡ Some leg) × OfOwn Call leg
IsCaused Call Object legs (Err (Dump k fault)) =
    (leg : LegLine) × (leg_at legs k ≡ Some leg) × (is_of_source fault.kind ≡ true → OfOwn Object leg)
IsCaused Call Object legs (Err TooLong) = Unit {0}
IsCaused Call Object legs (Err NoMemory) = Unit {0}

-- no leg from number n on has this input
abbrev pub NoneReads : ℕ → List LegLine → List ℕ → Type 0
NoneReads n legs name = (k : ℕ) (leg : LegLine) → n ≤ k → leg_at legs k ≡ Some leg → is_on_trunk leg ≡ false
    → leg.input ≡ name → ⊥

-- each name has its old count
abbrev pub AllKept : (List ℕ → ℕ) → (List ℕ → ℕ) → Type 0
AllKept old new = (name : List ℕ) → new name ≡ old name

-- Which readings did not fail: none did but where a leg has a fault, or memory ran out. Where a leg has a fault, none of a name did
-- that neither that leg nor a later one has, as far as counts are told of each name.
abbrev pub CountsKept : Type 0 → List LegLine → (List ℕ → ℕ) → (List ℕ → ℕ) → Result Mixed MixFault → Type 0
CountsKept Told legs old new (Ok mixed) = AllKept old new
CountsKept Told legs old new (Err (Open k)) = AllKept old new
CountsKept Told legs old new (Err (Dump k fault)) = Told → (name : List ℕ) → NoneReads k legs name → new name ≡ old name
CountsKept Told legs old new (Err TooLong) = AllKept old new
CountsKept Told legs old new (Err NoMemory) = Unit {0}

-- ---- by the counts of a world, before and after
module _ {W : Type 0} where
  abbrev pub IsCausedIn : (W → List ℕ → ℕ) → (W → List ℕ → ℕ) → W → W → List LegLine → Result Mixed MixFault → Type 0
  IsCausedIn own objects old new legs result = IsCaused (RoseAt (own old) (own new)) (RoseAt (objects old) (objects new)) legs result

  abbrev pub CountsKeptIn : Type 0 → (W → List ℕ → ℕ) → W → W → List LegLine → Result Mixed MixFault → Type 0
  CountsKeptIn Told objects old new legs result = CountsKept Told legs (objects old) (objects new) result
