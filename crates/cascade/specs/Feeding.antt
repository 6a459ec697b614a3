-- The legs of a conference, opened, of which nothing was read: each over the split of its SSRC, where it stands behind another mixer,
-- or over its input.
use Rattle.std.specs.Prelude.{◌≡◌, ◌≢◌, ◌⊎◌, ℕ, false, IsSome, Some, List, [], slice_get, if◌then◌else◌}
use Rattle.std.specs.Global.{Vec}
use Rattle.rtt_io.specs.Counts.{Rose, counted}
use Rattle.file_spec.specs.declared.conference_lines.LegLine.{LegLine}
use Rattle.leg.specs.Gives.{Stands, begins, is_over}
use Rattle.leg.specs.declared.inlets.LegInlet.{LegInlet}
use Rattle.leg.specs.Answers.{source_in}
use Rattle.mixer_spec.specs.Setups.{leg_at}
use Rattle.command_spec.specs.Work.{Contents}
use Rattle.command_spec.specs.Mixing.{input_at}
use Rattle.command_spec.specs.Cascading.{is_on_trunk}
use Rattle.cascade.specs.TrunkSources.{below}
use Rattle.rtt_mix.specs.Opened.{ear_of}
use Rattle.rtt_mix.specs.declared.hearings.LegHearing.{LegHearing}
use Rattle.rtt_mix.specs.declared.results.MixFault.{MixFault}
use Rattle.rtt_mix.specs.declared.results.MixFault.TheVariants.{Open, Dump, TooLong, NoMemory}
use Rattle.cascade.specs.Texts.{OwnLieBelow, text_of}

-- the name of the source that has the text of a leg
abbrev pub source_name : LegLine → List ℕ
source_name leg = if is_on_trunk leg then [] else below leg.input

-- the leg does not stand behind the other mixer, and this holds of its input
abbrev pub OfOwn : (List ℕ → Type 0) → LegLine → Type 0
OfOwn P leg = (is_on_trunk leg ≡ false) × P leg.input

module _ {S : Type 0} where
  -- The source has the text of a leg, where this is the split of its SSRC.
  pub record IsFed (Told : Type 0) (left : S → List ℕ) (faults : S → ℕ) (name : S → List ℕ) (held : Contents) (leg : LegLine) (recording : List ℕ) (s : S) : Type 0 where
    pub fresh : faults s ≡ 0
    pub named : name s ≡ source_name leg
    pub holds : Told → left s ≡ text_of held recording leg
    pub lies : Told → is_on_trunk leg ≡ false → IsSome (held leg.input)

  -- A leg over that source. Where sources tell what they hold, it hears that text.
  pub record IsFedLeg (Told Tells : Type 0) (left : S → List ℕ) (faults : S → ℕ) (name : S → List ℕ) (held : Contents) (hearing : LegHearing) (limit : ℕ) (leg : LegLine) (recording : List ℕ) (i : LegInlet S) : Type 0 where
    pub not_over : is_over i.leg ≡ false
    pub source : IsFed Told left faults name held leg recording (source_in i)
    pub told : Told → Tells → Stands left i.leg (begins (ear_of hearing leg) limit (text_of held recording leg))

  -- these legs, in order, over these recordings or their inputs
  abbrev pub AllFed : (Told Tells : Type 0) → (S → List ℕ) → (S → ℕ) → (S → List ℕ) → Contents → LegHearing → ℕ
      → List LegLine → List (List ℕ) → List (LegInlet S) → Type 0
  AllFed Told Tells left faults name held hearing limit lines recordings legs = (j : ℕ) (i : LegInlet S)
      → slice_get legs j ≡ Some i
      → (leg : LegLine) × (leg_at lines j ≡ Some leg)
      × IsFedLeg Told Tells left faults name held hearing limit leg (input_at recordings j) i

  -- the same of a whole list of legs
  abbrev pub AreFed : (Told Tells : Type 0) → (S → List ℕ) → (S → ℕ) → (S → List ℕ) → Contents → LegHearing → ℕ
      → List LegLine → List (List ℕ) → Vec (LegInlet S) → Type 0
  AreFed Told Tells left faults name held hearing limit lines recordings legs =
      AllFed Told Tells left faults name held hearing limit lines recordings legs.items

  -- this holds of each of these sources
  abbrev pub EachSource : (S → Type 0) → List (LegInlet S) → Type 0
  EachSource holds legs = (j : ℕ) (i : LegInlet S) → slice_get legs j ≡ Some i → holds (source_in i)

  -- no reading of these failed
  abbrev pub AreCalm : (S → ℕ) → List (LegInlet S) → Type 0
  AreCalm faults legs = EachSource (λ s. faults s ≡ 0) legs

  -- where this source is handed back, the count of this name is left: no reading of it failed, or something lies under its own
  -- name, which is another
  abbrev pub LeavesCount : (S → ℕ) → (S → List ℕ) → Contents → List ℕ → S → Type 0
  LeavesCount faults name held n s = (faults s ≡ 0) ⊎ ((own : List ℕ) × (name s ≡ below own) × (n ≢ own) × IsSome (held own))

  -- a count rose between these two, where the reading of the source failed and it is one of the world
  abbrev pub RisesFor : (S → ℕ) → (S → List ℕ) → (List ℕ → ℕ) → (List ℕ → ℕ) → S → Type 0
  RisesFor faults name old new s = (own : List ℕ) → name s ≡ below own → Rose 0 (faults s) → Rose (old own) (new own)

-- Why the leg j was not opened: the count of its input rose, or memory ran out.
abbrev pub FeedIsRefused : (List ℕ → ℕ) → (List ℕ → ℕ) → ℕ → LegLine → MixFault → Type 0
FeedIsRefused before after j leg (Open k) = (k ≡ j) × OfOwn (λ name. Rose (before name) (after name)) leg
FeedIsRefused before after j leg (Dump k fault) = ⊥
FeedIsRefused before after j leg TooLong = ⊥
FeedIsRefused before after j leg NoMemory = Unit {0}

-- Why not all legs were: the count of an input rose, and something lies under those before it; or memory ran out.
abbrev pub IsNotOpened : Type 0 → Contents → (List ℕ → ℕ) → (List ℕ → ℕ) → List LegLine → MixFault → Type 0
IsNotOpened Told held before after legs (Open k) =
    (leg : LegLine) × (leg_at legs k ≡ Some leg) × OfOwn (λ name. Rose (before name) (after name)) leg × (Told → OwnLieBelow k held legs)
IsNotOpened Told held before after legs (Dump k fault) = ⊥
IsNotOpened Told held before after legs TooLong = ⊥
IsNotOpened Told held before after legs NoMemory = Unit {0}

-- A source with so many faults and this name was handed back: they are added to the count of its name, where it is one of the world.
pub record AddsFaults (Told : Type 0) (held : Contents) (old new : List ℕ → ℕ) (faults : ℕ) (name : List ℕ) : Type 0 where
  pub calm : faults ≡ 0 → (n : List ℕ) → new n ≡ old n
  pub added : (own : List ℕ) → name ≡ below own → new own ≡ counted (old own) faults
  pub others : Told → (own : List ℕ) → name ≡ below own → IsSome (held own) → (n : List ℕ) → n ≢ own → new n ≡ old n

-- ---- by the counts of a world, before and after
module _ {W : Type 0} where
  -- the leg is not behind the other mixer, and the opening of its input failed
  abbrev pub IsOwnFailed : (W → List ℕ → ℕ) → W → W → LegLine → Type 0
  IsOwnFailed own old new leg = OfOwn (λ name. Rose (own old name) (own new name)) leg

  -- why the leg j was not opened
  abbrev pub IsOwnOpen : (W → List ℕ → ℕ) → W → W → ℕ → LegLine → MixFault → Type 0
  IsOwnOpen own old new j leg fault = FeedIsRefused (own old) (own new) j leg fault

  -- why not all legs were
  abbrev pub IsUnopened : Type 0 → (W → Contents) → (W → List ℕ → ℕ) → W → W → List LegLine → MixFault → Type 0
  IsUnopened Told contents own old new legs fault = IsNotOpened Told (contents old) (own old) (own new) legs fault

  -- a source with so many faults and this name was handed back
  abbrev pub HandsBack : Type 0 → (W → Contents) → (W → List ℕ → ℕ) → ℕ → List ℕ → W → W → Type 0
  HandsBack Told contents objects faults name old new = AddsFaults Told (contents old) (objects old) (objects new) faults name

  -- where the reading of a source failed, the count of its name rose
  abbrev pub FaultsRose : {S : Type 0} → (S → ℕ) → (S → List ℕ) → (W → List ℕ → ℕ) → List (LegInlet S) → W → W → Type 0
  FaultsRose {S} faults name objects legs old new = EachSource (RisesFor faults name (objects old) (objects new)) legs

  -- a name's count is the old one, where each of the sources leaves it
  abbrev pub CountsLeft : {S : Type 0} → (S → ℕ) → (S → List ℕ) → (W → Contents) → (W → List ℕ → ℕ)
      → List (LegInlet S) → W → W → Type 0
  CountsLeft {S} faults name contents objects legs old new =
      (n : List ℕ) → EachSource (LeavesCount faults name (contents old) n) legs → objects new n ≡ objects old n
