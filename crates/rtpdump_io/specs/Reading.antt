-- What is still to come of a reading of a recording, and what one call gives of it (profile).
use Rattle.std.specs.Prelude.{◌≡◌, ℕ, ◌-◌, List, [], Bool, true, false, None, Some, Result, Ok, Err, IfErr}
use Rattle.wire_spec.specs.declared.faults.DumpKind.{DumpKind}
use Rattle.wire_spec.specs.declared.faults.DumpKind.TheVariants as kind
use Rattle.wire_spec.specs.Dump.{Item, Whole, Place, Recording, with_item, records, dump}
use Rattle.wire_spec.specs.Dump as dumps
use Rattle.rtpdump_io.specs.declared.items.DumpItem.{DumpItem}
use Rattle.rtpdump_io.specs.declared.items.DumpItem.TheVariants.{Packet, Rtcp, Cut, Large, End}
use Rattle.rtpdump_io.specs.declared.items.DumpFault.{DumpFault}
use Rattle.rtpdump_io.specs.declared.readers.Stage.{Stage}
use Rattle.rtpdump_io.specs.declared.readers.Stage.TheVariants.{Opening, Records, Ended}
use Rattle.rtpdump_io.specs.declared.readers.DumpReader.{DumpReader}
use Rattle.rtt_io.specs.Counts.{Rose}
use Rattle.rtpdump_io.specs.Input.{unread}

-- no records, and no fault
abbrev pub nothing : Recording
nothing = record { items = []; fault = None }

-- no records, but a fault
abbrev pub broken : ℕ → DumpKind → Recording
broken byte kind = record { items = []; fault = Some (record { byte = byte; kind = kind }) }

-- the record that an answer stands for, where it stands for one; a packet's octets are handed out beside it
abbrev pub item_at : ℕ → dumps.What → Item
item_at at what = record { time = at; what = what }

-- the recording is broken at this byte; of a fault in reading nothing is said here
abbrev pub Breaks : DumpKind → ℕ → Recording → Type 0
Breaks kind.Read byte old = Unit {0}
Breaks kind.NotDump byte old = old ≡ broken byte kind.NotDump
Breaks kind.BadLength byte old = old ≡ broken byte kind.BadLength
Breaks kind.EndsInside byte old = old ≡ broken byte kind.EndsInside
Breaks kind.TooLong byte old = old ≡ broken byte kind.TooLong
Breaks kind.TooLarge byte old = old ≡ broken byte kind.TooLarge

-- what was to come began with what this answer says, and what is to come now is the rest
abbrev pub Gives : Result DumpItem DumpFault → List ℕ → Recording → Recording → Type 0
Gives (Ok (Packet at)) out old new = old ≡ with_item (item_at at (Whole out)) new
Gives (Ok (Rtcp at)) out old new = old ≡ with_item (item_at at dumps.Rtcp) new
Gives (Ok (Cut at)) out old new = old ≡ with_item (item_at at dumps.Cut) new
Gives (Ok (Large at)) out old new = old ≡ with_item (item_at at dumps.Large) new
Gives (Ok End) out old new = old ≡ nothing
Gives (Err fault) out old new = Breaks fault.kind fault.offset old

-- the source failed, and not the recording
abbrev pub is_of_source : DumpKind → Bool
is_of_source kind.Read = true
is_of_source _ = false

-- where the fault is one of the source, this holds of its byte
abbrev pub IfOfSource : Result DumpItem DumpFault → (ℕ → Type 0) → Type 0
IfOfSource result P = IfErr result (λ fault. fault.kind ≡ kind.Read → P fault.offset)

-- where the answer is no fault of the source, this holds
abbrev pub UnlessOfSource : {T : Type 0} → Result T DumpFault → Type 0 → Type 0
UnlessOfSource (Ok item) P = P
UnlessOfSource (Err fault) P = is_of_source fault.kind ≡ false → P

-- the recording has this fault, where it is none of the source
abbrev pub IsFaultOf : Recording → DumpFault → Type 0
IsFaultOf recording fault = is_of_source fault.kind ≡ false
    → recording.fault ≡ Some (record { byte = fault.offset; kind = fault.kind })

-- nothing comes after this answer
abbrev pub is_last : Result DumpItem DumpFault → Bool
is_last (Ok End) = true
is_last (Ok (Packet at)) = false
is_last (Ok (Rtcp at)) = false
is_last (Ok (Cut at)) = false
is_last (Ok (Large at)) = false
is_last (Err fault) = true

abbrev pub coming : Stage → ℕ → ℕ → List ℕ → Recording
coming Opening limit byte octets = dump limit octets
coming Records limit byte octets = records limit (record { byte = byte; rest = octets })
coming Ended limit byte octets = nothing

abbrev pub is_over : Stage → Bool
is_over Opening = false
is_over Records = false
is_over Ended = true

-- more than so many answers do not come, of a recording of at most 4194304 octets
abbrev pub answers_left : Stage → ℕ → ℕ
answers_left Opening byte = 4194306
answers_left Records byte = 4194305 - byte
answers_left Ended byte = 0

module _ {S : Type 0} where
  -- what is still to come of a reader
  abbrev pub to_come : (S → List ℕ) → DumpReader S → Recording
  to_come left reader = coming reader.stage reader.limit reader.offset (unread left reader.input)

  -- it gave its last answer
  abbrev pub is_ended : DumpReader S → Bool
  is_ended reader = is_over reader.stage

  -- what it reads from
  abbrev pub source_of : DumpReader S → S
  source_of reader = reader.input.source

  -- the octets that it has not read yet
  abbrev pub unread_by : (S → List ℕ) → DumpReader S → List ℕ
  unread_by left reader = unread left reader.input

  -- its source failed
  abbrev pub SourceFailed : (S → ℕ) → DumpReader S → DumpReader S → Type 0
  SourceFailed faults old new = Rose (faults (source_of old)) (faults (source_of new))

  -- no reading of its source failed
  abbrev pub SourceCalm : (S → ℕ) → DumpReader S → DumpReader S → Type 0
  SourceCalm faults old new = faults (source_of new) ≡ faults (source_of old)

  -- the place in the recording at which it stands
  abbrev pub place_of : (S → List ℕ) → DumpReader S → Place
  place_of left reader = record { byte = reader.offset; rest = unread left reader.input }

  -- how many answers may come at most
  abbrev pub most_answers : DumpReader S → ℕ
  most_answers reader = answers_left reader.stage reader.offset
