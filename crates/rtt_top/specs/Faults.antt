-- Why a command stops before it makes anything.
use Rattle.std.specs.Prelude.{◌≡◌, ◌≤◌, ℕ, suc, Bool, true, false, Option, Some, List, Err, if◌then◌else◌}
use Rattle.wire_spec.specs.Dump.{Recording}
use Rattle.wire_spec.specs.Dump as dumps
use Rattle.rtpdump_io.specs.declared.items.DumpFault.{DumpFault}
use Rattle.rtpdump_io.specs.Reading.{is_of_source}
use Rattle.command_spec.specs.declared.faults.Refusal.{Refusal}
use Rattle.command_spec.specs.declared.faults.Refusal.TheVariants.{AtByte, AtFrame, AtLine, AtTrunk, AfterTurns}
use Rattle.command_spec.specs.declared.faults.Fault.{Fault}
use Rattle.command_spec.specs.declared.faults.Fault.TheVariants.{WrongWords, CannotOpen, CannotRead, Refused, CannotPrint, CannotWrite, LinkFailed, NoMemory}
use Rattle.rtt_words.specs.Words.{Command, Read, ListRecords, Mix, Attend, Cascade, Make, Live, Watch, Relay, Channel, Show, Times, Script, Check}
use Rattle.command_spec.specs.Work.{Contents, Steps, Reads, Refuses, Makes, Serves}
use Rattle.rtt_words.specs.Tasks.{work}
use Rattle.command_spec.specs.Outcomes.{Outcome, Missing, Done, Served, outcome}
use Rattle.command_spec.specs.Outcomes as outcomes
use Rattle.command_spec.specs.Messages.{Ending}
use Rattle.rtt_words.specs.Told.{message_of}

-- the fault of the recording that is the input of this number
abbrev pub fault_of_dump : ℕ → DumpFault → Fault
fault_of_dump input fault =
    if is_of_source fault.kind then CannotRead input else Refused input (AtByte fault.offset fault.kind)

-- this holds where a file is read
abbrev pub WhereRead : Steps → Type 0 → Type 0
WhereRead (Reads name next) P = P
WhereRead (Refuses input refusal) P = Unit {0}
WhereRead (Makes printed files) P = Unit {0}
WhereRead (Serves c) P = Unit {0}

-- no input before this number is refused
abbrev pub NoneBefore : ℕ → Outcome → Type 0
NoneBefore n (Missing input) = Unit {0}
NoneBefore n (outcomes.Refused input (AtByte byte kind)) = n ≤ input
NoneBefore n (outcomes.Refused input (AtFrame byte kind)) = n ≤ input
NoneBefore n (outcomes.Refused input (AtLine line kind)) = n ≤ input
NoneBefore n (outcomes.Refused input (AtTrunk line)) = n ≤ input
NoneBefore n (outcomes.Refused input (AfterTurns turns)) = Unit {0}
NoneBefore n (Done printed files) = Unit {0}
NoneBefore n (Served c) = Unit {0}

-- These steps refuse this input so, where the octets of what is read lie there, as far as that is told.
abbrev pub RefusesSo : (WorldTells : Type 0) → Contents → Steps → ℕ → Refusal → Type 0
RefusesSo WorldTells held (Reads name next) input refusal =
    (octets : List ℕ) × (WorldTells → held name ≡ Some octets) × RefusesSo WorldTells held (next octets) input refusal
RefusesSo WorldTells held (Refuses n other) input refusal = (n ≡ input) × (other ≡ refusal)
RefusesSo WorldTells held (Makes printed files) input refusal = ⊥
RefusesSo WorldTells held (Serves c) input refusal = ⊥

-- The input of this number is a recording: the only one, that of a leg, or what another mixer sent.
abbrev pub is_recording : Command → ℕ → Bool
is_recording (Read r) input = true
is_recording (ListRecords l) input = true
is_recording (Channel c) input = true
is_recording (Show l) input = true
is_recording (Times l) input = true
is_recording (Script r) input = true
is_recording (Mix m) (suc leg) = true
is_recording (Attend m) (suc leg) = true
is_recording (Cascade c) (suc recording) = true
is_recording _ _ = false

-- frames are read or made
abbrev pub has_frames : Command → Bool
has_frames (Relay s) = true
has_frames (Channel c) = true
has_frames _ = false

-- a file is looked at
abbrev pub is_check : Command → Bool
is_check (Check c) = true
is_check _ = false

-- a live call is served
abbrev pub is_live : Command → Bool
is_live (Live m) = true
is_live (Watch m) = true
is_live _ = false

-- a conference is mixed
abbrev pub is_mixed : Command → Bool
is_mixed (Mix m) = true
is_mixed (Attend m) = true
is_mixed (Cascade c) = true
is_mixed (Make m) = true
is_mixed _ = false

-- Why a command stops over the file that it reads first; `Call` and `Object` tell that a call or an object of its name
-- failed. Want of memory is free.
abbrev pub Stops : (WorldTells : Type 0) → Contents → Command → (Call Object : Type 0) → Fault → Type 0
Stops WorldTells held c Call Object WrongWords = ⊥
Stops WorldTells held c Call Object (CannotOpen input) = (input ≡ 0) × Call
Stops WorldTells held c Call Object (CannotRead input) = (input ≡ 0) × Object
Stops WorldTells held c Call Object (Refused input (AtLine line kind)) =
    (input ≡ 0) × RefusesSo WorldTells held (work c).steps 0 (AtLine line kind)
Stops WorldTells held c Call Object (Refused input (AtTrunk line)) = ⊥
Stops WorldTells held c Call Object (Refused input (AtByte byte kind)) =
    (input ≡ 0) × (is_recording c 0 ≡ true) × (WorldTells → outcome held (work c).steps ≡ outcomes.Refused 0 (AtByte byte kind))
Stops WorldTells held c Call Object (Refused input (AtFrame byte kind)) =
    (input ≡ 0) × (has_frames c ≡ true) × (WorldTells → outcome held (work c).steps ≡ outcomes.Refused 0 (AtFrame byte kind))
Stops WorldTells held c Call Object (Refused input (AfterTurns turns)) = ⊥
Stops WorldTells held c Call Object CannotPrint = ⊥
Stops WorldTells held c Call Object (CannotWrite output) = ⊥
Stops WorldTells held c Call Object (LinkFailed leg) = ⊥
Stops WorldTells held c Call Object NoMemory = Unit {0}

-- the first input could not be read to its end, for such a cause
abbrev pub IsUnread : (Call Object : Type 0) → Fault → Type 0
IsUnread Call Object WrongWords = ⊥
IsUnread Call Object (CannotOpen input) = (input ≡ 0) × Call
IsUnread Call Object (CannotRead input) = (input ≡ 0) × Object
IsUnread Call Object (Refused input refusal) = ⊥
IsUnread Call Object CannotPrint = ⊥
IsUnread Call Object (CannotWrite output) = ⊥
IsUnread Call Object (LinkFailed leg) = ⊥
IsUnread Call Object NoMemory = Unit {0}

-- a refusal at the byte of this fault
abbrev pub IsOfByte : Option dumps.Fault → Refusal → Type 0
IsOfByte found (AtByte byte kind) = found ≡ Some (record { byte = byte; kind = kind })
IsOfByte found (AtFrame byte kind) = ⊥
IsOfByte found (AtLine line kind) = ⊥
IsOfByte found (AtTrunk line) = ⊥
IsOfByte found (AfterTurns turns) = ⊥

-- a fault of a first input that is a recording, where this says that its source failed
abbrev pub IsOfRecording : (Source : Type 0) → Fault → Type 0
IsOfRecording Source WrongWords = ⊥
IsOfRecording Source (CannotOpen input) = ⊥
IsOfRecording Source (CannotRead input) = (input ≡ 0) × Source
IsOfRecording Source (Refused input (AtByte byte kind)) = input ≡ 0
IsOfRecording Source (Refused input (AtFrame byte kind)) = ⊥
IsOfRecording Source (Refused input (AtLine line kind)) = ⊥
IsOfRecording Source (Refused input (AtTrunk line)) = ⊥
IsOfRecording Source (Refused input (AfterTurns turns)) = ⊥
IsOfRecording Source CannotPrint = ⊥
IsOfRecording Source (CannotWrite output) = ⊥
IsOfRecording Source (LinkFailed leg) = ⊥
IsOfRecording Source NoMemory = Unit {0}

-- what it tells of the recording is true
abbrev pub IsTrueOf : Option dumps.Fault → Fault → Type 0
IsTrueOf found (Refused input refusal) = IsOfByte found refusal
IsTrueOf found _ = Unit {0}

-- it is, where this is the fault of a recording
abbrev pub IsTrueFor : {F : Type 0} → (Recording → F → Type 0) → F → Fault → Type 0
IsTrueFor Of fault told = (recording : Recording) → Of recording fault → IsTrueOf recording.fault told

-- the name of the file that is told of, where there are one input and one output
abbrev pub name_in : List ℕ → List ℕ → Ending → List ℕ
name_in input output (Err (CannotWrite n)) = output
name_in input output _ = input

-- what is told of such an ending
abbrev pub message_in : List ℕ → List ℕ → Ending → List ℕ
message_in input output ending = message_of (name_in input output ending) ending
