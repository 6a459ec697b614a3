-- The inputs of a conference's legs, opened, of which nothing was read.
use Rattle.std.specs.Prelude.{◌≡◌, ◌≢◌, ◌⊎◌, ℕ, false, IsSome, Option, Some, List, slice_get}
use Rattle.std.specs.Global.{Vec}
use Rattle.file_spec.specs.declared.conference_lines.LegLine.{LegLine}
use Rattle.file_spec.specs.Conference.{Conference}
use Rattle.rtt_io.specs.Counts.{Rose}
use Rattle.rtt_io.specs.Names.{Same}
use Rattle.rtt_io.specs.declared.mem_sources.SteadySource.{SteadySource}
use Rattle.rtt_io.specs.contracts.mem_sources.SteadySourceSource.TheImpl.{left-value, tells-value}
use Rattle.receiver.specs.declared.settings.EarSettings.{EarSettings}
use Rattle.receiver.specs.Cuts.{cut_within}
use Rattle.leg.specs.Gives.{Stands, begins, is_over}
use Rattle.leg.specs.declared.inlets.LegInlet.{LegInlet}
use Rattle.leg.specs.Answers.{source_in}
use Rattle.mixer_spec.specs.Setups.{leg_at}
use Rattle.command_spec.specs.Mixing.{input_at}
use Rattle.command_spec.specs.Inputs.{LieBelow}
use Rattle.rtt_mix.specs.declared.hearings.LegHearing.{LegHearing}
use Rattle.rtt_mix.specs.declared.results.MixFault.{MixFault}
use Rattle.rtt_mix.specs.declared.results.MixFault.TheVariants.{Open, Dump, TooLong, NoMemory}

-- how the legs of a conference are heard
abbrev pub hearing_of : Conference → LegHearing
hearing_of c = record { wait = c.wait; cut = cut_within c.mtu }

-- what is heard of a leg
abbrev pub ear_of : LegHearing → LegLine → EarSettings
ear_of hearing leg =
    record { ssrc = leg.ssrc; payload_types = leg.payload_types; wait = hearing.wait; long = leg.long; cut = hearing.cut }

module _ {S : Type 0} where
  -- this holds of each of these sources
  abbrev pub EachSource : (S → Type 0) → List (LegInlet S) → Type 0
  EachSource holds legs = (j : ℕ) (i : LegInlet S) → slice_get legs j ≡ Some i → holds (source_in i)

  -- no reading of these failed
  abbrev pub AreCalm : (S → ℕ) → List (LegInlet S) → Type 0
  AreCalm faults legs = EachSource (λ s. faults s ≡ 0) legs

  -- where this source is handed back, the count of this name is left: no reading of it failed, or something lies under its own name,
  -- which is another
  abbrev pub LeavesCount : (S → ℕ) → (S → List ℕ) → (List ℕ → Option (List ℕ)) → List ℕ → S → Type 0
  LeavesCount faults name_of contents name s = (faults s ≡ 0) ⊎ ((name ≢ name_of s) × IsSome (contents (name_of s)))

  -- A leg over a source that holds these octets, where it tells what it holds.
  pub record IsOver (tells : Type 0) (left : S → List ℕ) (hearing : LegHearing) (limit : ℕ) (leg : LegLine) (octets : List ℕ) (i : LegInlet S) : Type 0 where
    pub not_over : is_over i.leg ≡ false
    pub told : tells → Stands left i.leg (begins (ear_of hearing leg) limit octets)

  -- these legs, in order, over these inputs
  abbrev pub AllOver : Type 0 → (S → List ℕ) → LegHearing → ℕ → List LegLine → List (List ℕ) → List (LegInlet S)
      → Type 0
  AllOver tells left hearing limit lines inputs legs = (j : ℕ) (i : LegInlet S) → slice_get legs j ≡ Some i
      → (leg : LegLine) × (leg_at lines j ≡ Some leg) × IsOver tells left hearing limit leg (input_at inputs j) i

  -- A leg over its input. Where sources tell what they hold, it holds the octets under its name.
  pub record IsOpened (tells : Type 0) (left : S → List ℕ) (faults : S → ℕ) (name_of : S → List ℕ) (contents : List ℕ → Option (List ℕ)) (hearing : LegHearing) (limit : ℕ) (leg : LegLine) (i : LegInlet S) : Type 0 where
    pub not_over : is_over i.leg ≡ false
    pub named : name_of (source_in i) ≡ leg.input
    pub fresh : faults (source_in i) ≡ 0
    pub told : tells → (octets : List ℕ) × (contents leg.input ≡ Some octets)
        × Stands left i.leg (begins (ear_of hearing leg) limit octets)

  -- these legs, in order
  abbrev pub AllOpened : Type 0 → (S → List ℕ) → (S → ℕ) → (S → List ℕ) → (List ℕ → Option (List ℕ)) → LegHearing → ℕ
      → List LegLine → List (LegInlet S) → Type 0
  AllOpened tells left faults name_of contents hearing limit lines legs = (j : ℕ) (i : LegInlet S)
      → slice_get legs j ≡ Some i
      → (leg : LegLine) × (leg_at lines j ≡ Some leg) × IsOpened tells left faults name_of contents hearing limit leg i

  -- the same of a whole list of legs
  abbrev pub AreOpened : Type 0 → (S → List ℕ) → (S → ℕ) → (S → List ℕ) → (List ℕ → Option (List ℕ)) → LegHearing → ℕ
      → List LegLine → Vec (LegInlet S) → Type 0
  AreOpened tells left faults name_of contents hearing limit lines legs =
      AllOpened tells left faults name_of contents hearing limit lines legs.items

-- these legs, in order, over inputs that are held in memory
abbrev pub AreHeld : LegHearing → ℕ → List LegLine → List (List ℕ) → Vec (LegInlet SteadySource) → Type 0
AreHeld hearing limit lines inputs legs = AllOver tells-value.it left-value.it hearing limit lines inputs legs.items

-- Why the leg j was not opened: the count of its name rose, or memory ran out.
abbrev pub OpeningIsRefused : (List ℕ → ℕ) → (List ℕ → ℕ) → ℕ → LegLine → MixFault → Type 0
OpeningIsRefused before after j leg (Open k) = (k ≡ j) × Rose (before leg.input) (after leg.input)
OpeningIsRefused before after j leg (Dump k fault) = ⊥
OpeningIsRefused before after j leg TooLong = ⊥
OpeningIsRefused before after j leg NoMemory = Unit {0}

-- Why not all legs were opened: the count of a leg's name rose, and there is something under the names of those before it; or
-- memory ran out.
abbrev pub IsNotOpened : Type 0 → (List ℕ → Option (List ℕ)) → (List ℕ → ℕ) → (List ℕ → ℕ) → List LegLine
    → MixFault → Type 0
IsNotOpened tells contents before after legs (Open k) = (leg : LegLine) × (leg_at legs k ≡ Some leg) × Rose (before leg.input) (after leg.input)
    × (tells → LieBelow k contents legs)
IsNotOpened tells contents before after legs (Dump k fault) = ⊥
IsNotOpened tells contents before after legs TooLong = ⊥
IsNotOpened tells contents before after legs NoMemory = Unit {0}

-- ---- by the counts of a world, before and after
module _ {W : Type 0} where
  -- why the leg j was not opened in it
  abbrev pub RefusedIn : (W → List ℕ → ℕ) → W → W → ℕ → LegLine → MixFault → Type 0
  RefusedIn own old new j leg fault = OpeningIsRefused (own old) (own new) j leg fault

  -- why not all legs were
  abbrev pub Unopened : Type 0 → (W → List ℕ → Option (List ℕ)) → (W → List ℕ → ℕ) → W → W → List LegLine
      → MixFault → Type 0
  Unopened tells contents own old new legs fault = IsNotOpened tells (contents old) (own old) (own new) legs fault

  -- where the reading of a source failed, the count of its name rose
  abbrev pub FaultsRose : {S : Type 0} → (S → ℕ) → (S → List ℕ) → (W → List ℕ → ℕ) → List (LegInlet S) → W → W → Type 0
  FaultsRose {S} faults name objects legs old new = EachSource (λ s. Rose 0 (faults s) → Rose (objects old (name s)) (objects new (name s))) legs

  -- a name's count is the old one, where each of the sources leaves it
  abbrev pub CountsLeft : {S : Type 0} → (S → ℕ) → (S → List ℕ) → (W → List ℕ → Option (List ℕ))
      → (W → List ℕ → ℕ) → List (LegInlet S) → W → W → Type 0
  CountsLeft {S} faults name_of contents objects legs old new =
      (name : List ℕ) → EachSource (LeavesCount faults name_of (contents old) name) legs
      → objects new name ≡ objects old name

  -- Legs were handed back. Where no reading failed, all counts are the old ones.
  pub record HandsBack {S : Type 0} (tells : Type 0) (faults : S → ℕ) (name_of : S → List ℕ) (contents : W → List ℕ → Option (List ℕ)) (objects : W → List ℕ → ℕ) (legs : List (LegInlet S)) (old new : W) : Type 0 where
    pub calm : AreCalm faults legs → Same objects old new
    pub failed : FaultsRose faults name_of objects legs old new
    pub left : tells → CountsLeft faults name_of contents objects legs old new
