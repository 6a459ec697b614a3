-- What a conference behind another mixer comes to, from what lies under the name of the recording and those of its own inputs.
use Rattle.std.specs.Prelude.{◌≡◌, ◌≢◌, ℕ, false, true, None, Some, Result, Ok, Err, List, map}
use Rattle.std.specs.List.{concat}
use Rattle.wire_spec.specs.Dump.{dump}
use Rattle.rtpdump_io.specs.declared.items.DumpFault.{DumpFault}
use Rattle.rtpdump_io.specs.declared.items.RecordingFault.{RecordingFault}
use Rattle.rtpdump_io.specs.declared.items.RecordingFault.TheVariants as recorded
use Rattle.rtpdump_io.specs.Reading.{is_of_source}
use Rattle.file_spec.specs.declared.conference_lines.LegLine.{LegLine}
use Rattle.file_spec.specs.Conference.{Conference}
use Rattle.command_spec.specs.Laws.{split_of}
use Rattle.command_spec.specs.declared.faults.Refusal.TheVariants.{AtByte, AfterTurns}
use Rattle.command_spec.specs.Work.{Contents}
use Rattle.command_spec.specs.Outcomes.{Outcome, Done, Refused, outcome_from}
use Rattle.command_spec.specs.Cascading.{cascades, trunk_limit, trunk_of}
use Rattle.cascade.specs.declared.splits.Splits.{Splits}
use Rattle.cascade.specs.Splits.{recordings_of}
use Rattle.rtt_mix.specs.declared.results.MixFault.{MixFault}
use Rattle.rtt_mix.specs.declared.results.MixFault.TheVariants as mix
use Rattle.rtt_mix.specs.declared.results.Mixed.{Mixed}
use Rattle.sent_log.specs.Files as sent
use Rattle.rtt_mix.specs.Mixes.{NoOtherFailed, RoseAt, outputs_of}
use Rattle.cascade.specs.declared.faults.CascadeFault.{CascadeFault}
use Rattle.cascade.specs.declared.faults.CascadeFault.TheVariants.{Open, Dump, TooLong, NoMemory}
use Rattle.cascade.specs.Inputs.{IsInputBehind, NoneHasName, RefusesNoneBefore, input_name, input_number}
use Rattle.cascade.specs.Texts.{SplitsAreWhole}
use Rattle.cascade.specs.Mixes.{AllKept}

-- ---- the recording
-- The split of the SSRC of each leg, in leg order, out of the recording that lies there, which is read to its end.
pub record AreSplits (held : Contents) (file : List ℕ) (ssrc : ℕ) (c : Conference) (s : Splits) : Type 0 where
  pub octets : List ℕ
  pub lies : held file ≡ Some octets
  pub whole : (dump (trunk_limit c) octets).fault ≡ None
  pub are : recordings_of s ≡ map (λ leg. split_of (trunk_of c ssrc) octets leg.ssrc) c.legs

-- why it is not split, where it has this fault
abbrev pub trunk_fault : RecordingFault → CascadeFault
trunk_fault (recorded.Dump fault) = Dump 1 fault
trunk_fault recorded.NoMemory = NoMemory

-- what lies there is refused at the byte of this fault
abbrev pub IsRefusedAt : Contents → List ℕ → Conference → DumpFault → Type 0
IsRefusedAt held file c fault =
    (octets : List ℕ) × (held file ≡ Some octets) × ((dump (trunk_limit c) octets).fault ≡ Some (record { byte = fault.offset; kind = fault.kind }))

-- Why it was not split; `Call` and `Object` tell that a call or an object of its name failed.
abbrev pub IsUnsplit : (Told Call Object : Type 0) → Contents → List ℕ → Conference → CascadeFault → Type 0
IsUnsplit Told Call Object held file c (Open input) = (input ≡ 1) × Call
IsUnsplit Told Call Object held file c (Dump input fault) =
    (input ≡ 1) × (is_of_source fault.kind ≡ true → Object) × (is_of_source fault.kind ≡ false → Told → IsRefusedAt held file c fault)
IsUnsplit Told Call Object held file c TooLong = ⊥
IsUnsplit Told Call Object held file c NoMemory = Unit {0}

-- no reading failed, but where it is told of: then none of another name did, as far as counts are told of each name
abbrev pub OthersKept : Type 0 → List ℕ → (List ℕ → ℕ) → (List ℕ → ℕ) → Result Splits CascadeFault → Type 0
OthersKept Told file old new (Ok s) = AllKept old new
OthersKept Told file old new (Err (Open input)) = AllKept old new
OthersKept Told file old new (Err (Dump input fault)) = Told → (name : List ℕ) → name ≢ file → new name ≡ old name
OthersKept Told file old new (Err TooLong) = Unit {0}
OthersKept Told file old new (Err NoMemory) = Unit {0}

-- ---- the whole
-- the fault of a conference behind another mixer, where a leg has this one
abbrev pub fault_of : List LegLine → MixFault → CascadeFault
fault_of legs (mix.Open leg) = Open (input_number legs leg)
fault_of legs (mix.Dump leg fault) = Dump (input_number legs leg) fault
fault_of legs mix.TooLong = TooLong
fault_of legs mix.NoMemory = NoMemory

-- what it comes to
abbrev pub outcome_behind : Contents → List ℕ → ℕ → Conference → Outcome
outcome_behind held file ssrc c = outcome_from 1 held (cascades file ssrc c)

-- These are the views and the outputs that it comes to.
abbrev pub IsMadeBehind : Contents → List ℕ → ℕ → Conference → Mixed → Type 0
IsMadeBehind held file ssrc c mixed =
    outcome_behind held file ssrc c ≡ Done (concat mixed.views.items) (outputs_of c.legs (sent.recordings_of mixed.outs))

-- The input of this number and name is refused at the byte of this fault, or its source failed. None before it is refused.
pub record IsBroken (Told : Type 0) (Object : List ℕ → Type 0) (held : Contents) (file : List ℕ) (ssrc : ℕ) (c : Conference) (input : ℕ) (name : List ℕ) (fault : DumpFault) : Type 0 where
  pub is_input : IsInputBehind Told held (cascades file ssrc c) input name
  pub read : is_of_source fault.kind ≡ true → Object name
  pub lowest : Told → SplitsAreWhole held file ssrc c → RefusesNoneBefore input (outcome_behind held file ssrc c)
  pub refused : is_of_source fault.kind ≡ false → Told
      → outcome_behind held file ssrc c ≡ Refused input (AtByte fault.offset fault.kind)

-- Why nothing is made; `Call` and `Object` tell of which names a call or an object failed. Want of memory is free.
abbrev pub Stops : (Told : Type 0) → (Call Object : List ℕ → Type 0) → Contents → List ℕ → ℕ → Conference
    → CascadeFault → Type 0
Stops Told Call Object held file ssrc c (Open input) =
    IsInputBehind Told held (cascades file ssrc c) input (input_name file c.legs input) × Call (input_name file c.legs input)
Stops Told Call Object held file ssrc c (Dump input fault) = IsBroken Told Object held file ssrc c input (input_name file c.legs input) fault
Stops Told Call Object held file ssrc c TooLong = Told
    → outcome_behind held file ssrc c ≡ Refused 0 (AfterTurns c.turns)
Stops Told Call Object held file ssrc c NoMemory = Unit {0}

-- Which readings did not fail: none did but where an input has a fault, or memory ran out. Where one has a fault, none of a name did
-- that neither that input nor a later one has, as far as counts are told of each name.
abbrev pub NoneFailed : Type 0 → Contents → List ℕ → ℕ → Conference → (List ℕ → ℕ) → (List ℕ → ℕ)
    → Result Mixed CascadeFault → Type 0
NoneFailed Told held file ssrc c old new (Ok mixed) = AllKept old new
NoneFailed Told held file ssrc c old new (Err (Open input)) = AllKept old new
NoneFailed Told held file ssrc c old new (Err (Dump input fault)) =
    Told → (name : List ℕ) → NoneHasName Told held (cascades file ssrc c) input name → new name ≡ old name
NoneFailed Told held file ssrc c old new (Err TooLong) = AllKept old new
NoneFailed Told held file ssrc c old new (Err NoMemory) = Unit {0}

-- The input that can't be opened is the first one: no call for another failed, as far as counts are told of each name. Where all
-- are opened, no call failed. With no memory that is free.
abbrev pub IsFirst : Type 0 → Contents → List ℕ → List LegLine → (List ℕ → ℕ) → (List ℕ → ℕ) → CascadeFault → Type 0
IsFirst Told held file legs old new (Open input) = Told → NoOtherFailed held (input_name file legs input) old new
IsFirst Told held file legs old new (Dump input fault) = AllKept old new
IsFirst Told held file legs old new TooLong = AllKept old new
IsFirst Told held file legs old new NoMemory = Unit {0}

-- ---- by the counts of a world, before and after
module _ {W : Type 0} where
  abbrev pub IsFirstIn : Type 0 → (W → Contents) → (W → List ℕ → ℕ) → W → W → List ℕ → List LegLine
      → CascadeFault → Type 0
  IsFirstIn Told contents own old new file legs fault = IsFirst Told (contents old) file legs (own old) (own new) fault

  -- Why the recording was not split. No call for another input failed.
  pub record IsUnsplitIn (Told : Type 0) (contents : W → Contents) (own objects : W → List ℕ → ℕ) (old new : W) (file : List ℕ) (c : Conference) (fault : CascadeFault) : Type 0 where
    pub cause : IsUnsplit Told (RoseAt (own old) (own new) file) (RoseAt (objects old) (objects new) file) (contents old) file c fault
    pub first : IsFirstIn Told contents own old new file c.legs fault

  abbrev pub OthersKeptIn : Type 0 → (W → List ℕ → ℕ) → W → W → List ℕ → Result Splits CascadeFault → Type 0
  OthersKeptIn Told objects old new file result = OthersKept Told file (objects old) (objects new) result

  -- why nothing is made
  abbrev pub StopsIn : Type 0 → (W → Contents) → (W → List ℕ → ℕ) → (W → List ℕ → ℕ) → W → W → List ℕ → ℕ
      → Conference → CascadeFault → Type 0
  StopsIn Told contents own objects old new file ssrc c =
      Stops Told (RoseAt (own old) (own new)) (RoseAt (objects old) (objects new)) (contents old) file ssrc c

  abbrev pub NoneFailedIn : Type 0 → (W → Contents) → (W → List ℕ → ℕ) → W → W → List ℕ → ℕ → Conference
      → Result Mixed CascadeFault → Type 0
  NoneFailedIn Told contents objects old new file ssrc c result =
      NoneFailed Told (contents old) file ssrc c (objects old) (objects new) result
