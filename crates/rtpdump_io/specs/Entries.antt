-- What is still to come of a reading that hands out the octets of RTCP too, and what one call gives of it (profile).
use Rattle.std.specs.Prelude.{◌≡◌, ℕ, Bool, true, false, List, [], ◌∷◌, Result, Ok, Err}
use Rattle.wire_spec.specs.declared.faults.DumpKind.{DumpKind}
use Rattle.wire_spec.specs.Dump.{Whole}
use Rattle.wire_spec.specs.Dump as dumps
use Rattle.wire_spec.specs.Recorded.{Entry, body_of, at_most_4224, entries_at, entries}
use Rattle.rtpdump_io.specs.declared.items.DumpItem.{DumpItem}
use Rattle.rtpdump_io.specs.declared.items.DumpItem.TheVariants.{Packet, Rtcp, Cut, Large, End}
use Rattle.rtpdump_io.specs.declared.items.DumpFault.{DumpFault}
use Rattle.rtpdump_io.specs.declared.readers.Stage.{Stage}
use Rattle.rtpdump_io.specs.declared.readers.Stage.TheVariants.{Opening, Records, Ended}
use Rattle.rtpdump_io.specs.declared.readers.DumpReader.{DumpReader}
use Rattle.rtpdump_io.specs.Reading.{item_at, is_of_source}
use Rattle.rtpdump_io.specs.Input.{unread}

-- the record that an answer stands for, with its octets where it is one of RTCP, and what comes behind it
abbrev pub entry_as : DumpItem → List ℕ → List Entry → List Entry
entry_as (Packet at) out rest = record { item = item_at at (Whole out); octets = [] } ∷ rest
entry_as (Rtcp at) out rest = record { item = item_at at dumps.Rtcp; octets = out } ∷ rest
entry_as (Cut at) out rest = record { item = item_at at dumps.Cut; octets = [] } ∷ rest
entry_as (Large at) out rest = record { item = item_at at dumps.Large; octets = [] } ∷ rest
entry_as End out rest = []

-- what was to come began with the record that this answer stands for, and what is to come now is the rest
abbrev pub GivesEntry : Result DumpItem DumpFault → List ℕ → List Entry → List Entry → Type 0
GivesEntry (Ok item) out old new = old ≡ entry_as item out new
GivesEntry (Err fault) out old new = is_of_source fault.kind ≡ false → old ≡ []

-- the same of what a step finds
abbrev pub entries_as : Result DumpItem DumpKind → List ℕ → List Entry → List Entry
entries_as (Ok item) out rest = entry_as item out rest
entries_as (Err kind) out rest = []

-- where the opening is read
abbrev pub entries_ready : Result (Unit {0}) DumpKind → List Entry → List Entry
entries_ready (Ok u) rest = rest
entries_ready (Err kind) rest = []

-- where the answer is a record of RTCP whose octets are wanted, they are handed out
abbrev pub HandsOutRtcp : Bool → List ℕ → List ℕ → Result DumpItem DumpKind → Type 0
HandsOutRtcp with_rtcp rest out (Ok (Packet at)) = Unit {0}
HandsOutRtcp with_rtcp rest out (Ok (Rtcp at)) = with_rtcp ≡ true → out ≡ at_most_4224 (body_of rest)
HandsOutRtcp with_rtcp rest out (Ok (Cut at)) = Unit {0}
HandsOutRtcp with_rtcp rest out (Ok (Large at)) = Unit {0}
HandsOutRtcp with_rtcp rest out (Ok End) = Unit {0}
HandsOutRtcp with_rtcp rest out (Err kind) = Unit {0}

abbrev pub entries_coming : Stage → ℕ → ℕ → List ℕ → List Entry
entries_coming Opening limit byte octets = entries limit octets
entries_coming Records limit byte octets = entries_at limit (record { byte = byte; rest = octets })
entries_coming Ended limit byte octets = []

module _ {S : Type 0} where
  -- the records that are still to come of a reader
  abbrev pub entries_to_come : (S → List ℕ) → DumpReader S → List Entry
  entries_to_come left reader = entries_coming reader.stage reader.limit reader.offset (unread left reader.input)

  -- what was to come is this, and behind it what is still to come
  abbrev pub EntriesCome : (S → List ℕ) → DumpReader S → DumpReader S → List ℕ → Result DumpItem DumpKind → Type 0
  EntriesCome left old new out found = entries_to_come left old ≡ entries_as found out (entries_to_come left new)

  -- what was to come is still to come, where the opening has no fault
  abbrev pub EntriesReady : (S → List ℕ) → DumpReader S → DumpReader S → Result (Unit {0}) DumpKind → Type 0
  EntriesReady left old new found = entries_to_come left old ≡ entries_ready found (entries_to_come left new)
