-- The inputs of a conference's legs, opened, and what was heard of them.
use Rattle.std.specs.Prelude.{◌≡◌, ℕ, ◌<◌, false, true, Option, None, Some, List, slice_get, Result, Ok, Err}
use Rattle.std.specs.Global.{Vec}
use Rattle.wire_spec.specs.Dump.{dump}
use Rattle.rtpdump_io.specs.declared.items.DumpFault.{DumpFault}
use Rattle.rtpdump_io.specs.Reading.{is_of_source}
use Rattle.file_spec.specs.declared.conference_lines.LegLine.{LegLine}
use Rattle.mixer_spec.specs.Setups.{leg_at, ssrc_of}
use Rattle.command_spec.specs.Work.{Contents}
use Rattle.rtt_attend.specs.declared.inputs.Sender.{Sender}
use Rattle.command_spec.specs.Mixing.{input_at}
use Rattle.leg.specs.Answers.{read_well}
use Rattle.command_spec.specs.Inputs.{NoneFailedBelow, inputs_under}
use Rattle.rtt_mix.specs.Mixes.{RoseAt}
use Rattle.rtt_mix.specs.declared.results.MixFault.{MixFault}
use Rattle.rtt_mix.specs.declared.results.MixFault.TheVariants.{Open, Dump, TooLong, NoMemory}
use Rattle.rtt_attend.specs.declared.source_notes.SourceNotes.{SourceNotes}
use Rattle.rtt_attend.specs.Heard.{Hears}

module _ {S : Type 0} where
  -- no reading of these failed
  abbrev pub AreFresh : (S → ℕ) → List S → Type 0
  AreFresh faults sources = (j : ℕ) (s : S) → slice_get sources j ≡ Some s → faults s ≡ 0

  -- The input of this leg, of which nothing was read. Where sources tell what they hold, it holds the octets under its name.
  pub record IsInput (tells : Type 0) (left : S → List ℕ) (faults : S → ℕ) (name_of : S → List ℕ) (held : Contents) (leg : LegLine) (s : S) : Type 0 where
    pub named : name_of s ≡ leg.input
    pub fresh : faults s ≡ 0
    pub told : tells → held leg.input ≡ Some (left s)

  -- those of these legs, in order
  abbrev pub AreInputs : Type 0 → (S → List ℕ) → (S → ℕ) → (S → List ℕ) → Contents → List LegLine → List S → Type 0
  AreInputs tells left faults name_of held legs sources = (j : ℕ) (s : S) → slice_get sources j ≡ Some s
      → (leg : LegLine) × (leg_at legs j ≡ Some leg) × IsInput tells left faults name_of held leg s

-- ---- by what lies under the inputs of these legs
-- what the input of a leg is heard for; where there is none, for the SSRC 0 and types that no packet has
abbrev pub heard_as : Option LegLine → Sender
heard_as leg = record {
  ssrc = ssrc_of leg;
  payload_types = elim leg [ None ↦ record { t140 = 0; red = 0 } | Some line ↦ line.payload_types ];
  long = elim leg [ None ↦ false | Some line ↦ line.long ];
}

-- this was heard of the leg k
abbrev pub HearsLeg : ℕ → Contents → List LegLine → ℕ → Result SourceNotes DumpFault → Type 0
HearsLeg limit held legs k result = Hears limit (heard_as (leg_at legs k)) (input_at (inputs_under held legs) k) result

-- and this of the legs, in order
abbrev pub AreHeard : ℕ → Contents → List LegLine → List SourceNotes → Type 0
AreHeard limit held legs all = (k : ℕ) (said : SourceNotes) → slice_get all k ≡ Some said
    → HearsLeg limit held legs k (Ok said)

-- The input of the leg with this number has this fault, or its source failed. Those of the legs before it can be read to
-- their ends.
pub record IsUnheard (Told : Type 0) (objects objects_then : List ℕ → ℕ) (held : Contents) (limit : ℕ) (legs : List LegLine) (number : ℕ) (fault : DumpFault) : Type 0 where
  pub leg : LegLine
  pub at : leg_at legs number ≡ Some leg
  pub read : is_of_source fault.kind ≡ true → RoseAt objects objects_then leg.input
  pub refused : Told → HearsLeg limit held legs number (Err fault)
  pub lowest : Told → (k : ℕ) → k < number → (dump limit (input_at (inputs_under held legs) k)).fault ≡ None
  pub others : Told → NoneFailedBelow (read_well number fault) legs objects objects_then

-- Why not all were heard.
abbrev pub AreUnheard : Type 0 → (objects objects_then : List ℕ → ℕ) → Contents → ℕ → List LegLine → MixFault → Type 0
AreUnheard Told objects objects_then held limit legs (Dump number fault) = IsUnheard Told objects objects_then held limit legs number fault
AreUnheard Told objects objects_then held limit legs (Open number) = ⊥
AreUnheard Told objects objects_then held limit legs TooLong = ⊥
AreUnheard Told objects objects_then held limit legs NoMemory = ⊥

module _ {W : Type 0} where
  -- the count of this name rose where the source failed
  abbrev pub FailedIn : (W → List ℕ → ℕ) → List ℕ → W → W → DumpFault → Type 0
  FailedIn objects name old new fault = is_of_source fault.kind ≡ true → RoseAt (objects old) (objects new) name

  -- these were heard, by what lies there
  abbrev pub HeardIn : (W → Contents) → W → ℕ → List LegLine → Vec SourceNotes → Type 0
  HeardIn contents world limit legs all = AreHeard limit (contents world) legs all.items

  -- the same by what a world holds and counts
  abbrev pub UnheardIn : Type 0 → (W → Contents) → (W → List ℕ → ℕ) → W → W → ℕ → List LegLine → MixFault → Type 0
  UnheardIn Told contents objects old new limit legs fault = AreUnheard Told (objects old) (objects new) (contents old) limit legs fault
