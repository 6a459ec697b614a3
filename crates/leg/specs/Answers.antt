-- What plain mixing of recordings answers.
use Rattle.std.specs.Prelude.{◌≡◌, ◌≤◌, ◌<◌, ◌+◌, ℕ, false, None, Some, List, [], length, map, slice_get, if◌then◌else◌}
use Rattle.rtt_base.specs.declared.text_packets.PayloadTypes.{PayloadTypes}
use Rattle.wire_spec.specs.declared.faults.DumpKind.TheVariants.{Read}
use Rattle.stream_spec.specs.Ready.{Chunk}
use Rattle.rtt_io.specs.Counts.{Rose}
use Rattle.rtpdump_io.specs.declared.items.DumpFault.{DumpFault}
use Rattle.rtpdump_io.specs.Reading.{IsFaultOf, is_of_source}
use Rattle.file_spec.specs.declared.conference_lines.LegLine.{LegLine}
use Rattle.file_spec.specs.Conference.{Conference}
use Rattle.mixer_spec.specs.Setups.{Setup, in_stay, leg_at}
use Rattle.mixer_spec.specs.Bridged.{input_limit}
use Rattle.mixer_spec.specs.Table.{Table, Call}
use Rattle.mixer_spec.specs.Plain.{plain}
use Rattle.leg.specs.Gives.{Stands, is_over, source_of}
use Rattle.mix_loop.specs.declared.turns.MixEnd.{MixEnd}
use Rattle.mix_loop.specs.declared.turns.MixEnd.TheVariants as mixing
use Rattle.mix_loop.specs.Mixers.{At, Of}
use Rattle.mix_loop.specs.Mixing.{StayAs}
use Rattle.mix_loop.specs.Ports.{of_leg}
use Rattle.mix_loop.specs.Turns.{UnlessUnsent}
use Rattle.receiver.specs.declared.settings.EarSettings.{EarSettings}
use Rattle.receiver.specs.Cuts.{cut_within}
use Rattle.leg.specs.declared.inlets.LegInlet.{LegInlet}
use Rattle.leg.specs.Feds.{Asked, past_of, recording_asked, chunks_asked}

-- each of the first n recordings is read to its end
abbrev pub AllWhole : ℕ → (ℕ → Asked) → Type 0
AllWhole n asked = (j : ℕ) → j < n → (recording_asked (asked j)).fault ≡ None

-- Plain mixing of these chunks, where each recording can be read; else the fault of the lowest leg whose recording can't be.
abbrev pub IsAnswer : {T : Type 0} → MixEnd DumpFault T → Setup → ℕ → ℕ → (ℕ → Asked) → (ℕ → List Chunk)
    → Table → Type 0
IsAnswer mixing.Over s tick turns asked chunks table = (plain s tick turns chunks ≡ Some table) × AllWhole s.legs asked
IsAnswer mixing.TooLong s tick turns asked chunks table = (plain s tick turns chunks ≡ None) × AllWhole s.legs asked
IsAnswer (mixing.Stopped why) s tick turns asked chunks table = Unit {0}
IsAnswer (mixing.Faulted leg fault) s tick turns asked chunks table = (leg < s.legs) × IsFaultOf (recording_asked (asked leg)) fault × AllWhole leg asked

-- how many legs, the lowest, were read without a failure where the leg with this number has this fault
abbrev pub read_well : ℕ → DumpFault → ℕ
read_well leg fault = if is_of_source fault.kind then leg else leg + 1

-- by this answer no reading for the leg j failed
abbrev pub IsReadWell : {T : Type 0} → MixEnd DumpFault T → ℕ → Type 0
IsReadWell mixing.Over j = Unit {0}
IsReadWell mixing.TooLong j = Unit {0}
IsReadWell (mixing.Stopped why) j = ⊥
IsReadWell (mixing.Faulted leg fault) j = j < read_well leg fault

-- these are the chunks that count of each leg that is asked for
pub record AreChunks (s : Setup) (asked : ℕ → Asked) (chunks : ℕ → List Chunk) : Type 0 where
  pub legs : (j : ℕ) → j < s.legs → chunks j ≡ map (of_leg j) (in_stay s j (chunks_asked (asked j)))
  pub above : (j : ℕ) → s.legs ≤ j → chunks j ≡ []

-- how a leg of a conference is heard
abbrev pub heard_as : Conference → LegLine → EarSettings
heard_as c l =
    record { ssrc = l.ssrc; payload_types = l.payload_types; wait = c.wait; long = l.long; cut = cut_within c.mtu }

-- of a conference whose inputs have these octets: each leg hears its stream in its input
abbrev pub AreOfConference : Conference → (ℕ → List ℕ) → (ℕ → Asked) → Type 0
AreOfConference c inputs asked =
    (j : ℕ) (l : LegLine) → leg_at c.legs j ≡ Some l
    → asked j ≡ record { settings = heard_as c l; limit = input_limit c; octets = inputs j }

module _ {S : Type 0} where
  -- the source of a leg
  abbrev pub source_in : LegInlet S → S
  source_in i = source_of i.leg

  -- each leg may be asked
  abbrev pub AllNew : List (LegInlet S) → Type 0
  AllNew legs = (j : ℕ) (i : LegInlet S) → slice_get legs j ≡ Some i → is_over i.leg ≡ false

  -- each leg is asked for this, and gave nothing yet
  abbrev pub AllAsked : (S → List ℕ) → (ℕ → Asked) → List (LegInlet S) → Type 0
  AllAsked left asked legs = (j : ℕ) (i : LegInlet S) → slice_get legs j ≡ Some i
      → Stands left i.leg (past_of (asked j) [])

  -- The source of the leg j is the one that it was. Where its reading failed, its count rose; where none did, it is the old one.
  pub record SourceKept {T : Type 0} (faults : S → ℕ) (name : S → List ℕ) (answer : MixEnd DumpFault T) (j : ℕ) (old new : S) : Type 0 where
    pub never_falls : faults old ≤ faults new
    pub same_name : name new ≡ name old
    pub read : (fault : DumpFault) → answer ≡ mixing.Faulted j fault → fault.kind ≡ Read
        → Rose (faults old) (faults new)
    pub calm : IsReadWell answer j → faults new ≡ faults old

  -- Unless it could not send, the mixer has come to this table. All sources are there still. Where they tell what they hold, the
  -- answer is that of plain mixing of what is heard of them.
  pub record PlainMixed {M T : Type 0} (mixes : M → Setup → List Call → Type 0) (tells : Type 0) (left : S → List ℕ) (faults : S → ℕ) (name : S → List ℕ)
      (s : Setup) (tick turns : ℕ) (answer : MixEnd DumpFault T) (old new : List (LegInlet S)) (m : M) : Type 0 where
    pub table : Table
    pub mixed : UnlessUnsent answer (At mixes m s table)
    pub within : (leg : ℕ) (fault : DumpFault) → answer ≡ mixing.Faulted leg fault → leg < s.legs
    pub sources : (j : ℕ) (i k : LegInlet S) → slice_get old j ≡ Some i → slice_get new j ≡ Some k
        → SourceKept faults name answer j (source_in i) (source_in k)
    pub is : tells → (asked : ℕ → Asked) (chunks : ℕ → List Chunk) → AllAsked left asked old
        → AreChunks s asked chunks → IsAnswer answer s tick turns asked chunks table

  -- In a mixing of such legs, by a mixer of which nothing was called, this was answered.
  abbrev pub PlainMixes : {M T : Type 0} → (M → Setup → (ℕ → PayloadTypes) → List Call → Type 0) → Type 0
      → (S → List ℕ) → (S → ℕ) → (S → List ℕ) → ℕ → ℕ → List LegLine → MixEnd DumpFault T → List (LegInlet S)
      → List (LegInlet S) → M → M → Type 0
  PlainMixes mixes tells left faults name tick turns lines answer legs legs' m m' =
      (s : Setup) (payload_types : ℕ → PayloadTypes) → mixes m s payload_types [] → s.legs ≡ length legs
      → StayAs s lines
      → PlainMixed (Of mixes payload_types) tells left faults name s tick turns answer legs legs' m'
