-- What is heard of one input, by the octets of its recording.
use Rattle.std.specs.Prelude.{◌≡◌, ℕ, Bool, true, false, None, Some, Option, List, Result, Ok, Err, IfErr, if◌then◌else◌}
use Rattle.wire_spec.specs.Dump.{Item, Recording, dump}
use Rattle.wire_spec.specs.Recorded.{Entry}
use Rattle.view_spec.specs.declared.tallies.Tally.{Tally}
use Rattle.view_spec.specs.Tallies.{tally_in}
use Rattle.file_spec.specs.Primaries.{primary_limit}
use Rattle.file_spec.specs.declared.conference_lines.LegLine.{LegLine}
use Rattle.rtt_attend.specs.declared.inputs.Sender.{Sender}
use Rattle.rtt_attend.specs.Counted.{hears_so}
use Rattle.rtt_io.specs.Counts.{Rose}
use Rattle.wire_spec.specs.Rtcp.{rtcp}
use Rattle.rtpdump_io.specs.declared.items.DumpItem.{DumpItem}
use Rattle.rtpdump_io.specs.declared.items.DumpItem.TheVariants.{Packet, Rtcp, Cut, Large, End}
use Rattle.rtpdump_io.specs.declared.items.DumpFault.{DumpFault}
use Rattle.rtpdump_io.specs.Reading.{IsFaultOf, UnlessOfSource, is_of_source}
use Rattle.command_spec.specs.Attending as attending
use Rattle.command_spec.specs.Attending.{and_read, nothing, said_after, said_by}
use Rattle.rtt_attend.specs.declared.source_notes.SourceNotes.{SourceNotes}

-- what is told of a sender, in the definition's words
abbrev pub said_of : SourceNotes → attending.Said
said_of said = record { name = said.name; left = said.left }

-- ---- one record
abbrev pub moment_of : DumpItem → Option ℕ
moment_of (Packet at) = Some at
moment_of (Rtcp at) = Some at
moment_of (Cut at) = Some at
moment_of (Large at) = Some at
moment_of End = None

abbrev pub is_rtcp : DumpItem → Bool
is_rtcp (Rtcp at) = true
is_rtcp _ = false

-- what is known then is what a record at this moment tells, which has these octets where it is one of RTCP
abbrev pub TellsItem : ℕ → ℕ → DumpItem → List ℕ → SourceNotes → SourceNotes → Type 0
TellsItem ssrc at item octets old new = said_of new ≡ (if is_rtcp item then and_read ssrc at (said_of old) (rtcp octets) else said_of old)

-- ---- all of them
-- the sender of a leg
abbrev pub sender_of : LegLine → Sender
sender_of leg = record { ssrc = leg.ssrc; payload_types = leg.payload_types; long = leg.long }

-- what is counted of it by these items
abbrev pub tally_of : Sender → List Item → Tally
tally_of s items = tally_in (primary_limit s.long) (hears_so s) items

-- it is what these records tell of the sender that is heard, and what is counted of them, where their recording has no fault
abbrev pub HearsAll : Sender → List Entry → Recording → Result SourceNotes DumpFault → Type 0
HearsAll s records recording (Ok said) =
    (said_of said ≡ said_after s.ssrc 0 nothing records) × (recording.fault ≡ None)
    × (said.tally ≡ tally_of s recording.items)
HearsAll s records recording (Err fault) = IsFaultOf recording fault

-- it is what an input of these octets tells of its sender, and what is counted of it, where it can be read to its end
abbrev pub Hears : ℕ → Sender → List ℕ → Result SourceNotes DumpFault → Type 0
Hears limit s octets (Ok said) =
    (said_of said ≡ said_by limit s.ssrc octets) × ((dump limit octets).fault ≡ None)
    × (said.tally ≡ tally_of s (dump limit octets).items)
Hears limit s octets (Err fault) = IsFaultOf (dump limit octets) fault

module _ {S : Type 0} where
  -- A source that was read is the one that it was. Where its reading failed, its count rose, and else it did not.
  pub record IsRead (faults : S → ℕ) (name : S → List ℕ) (result : Result SourceNotes DumpFault) (old new : S) : Type 0 where
    pub same_name : name new ≡ name old
    pub read : IfErr result (λ fault. is_of_source fault.kind ≡ true → Rose (faults old) (faults new))
    pub calm : UnlessOfSource result (faults new ≡ faults old)
