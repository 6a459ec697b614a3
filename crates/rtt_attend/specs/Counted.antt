-- What is counted of an input, record by record.
use Rattle.std.specs.Prelude.{◌≡◌, ◌+◌, ◌≤◌, ◌<◌, ◌^◌, ℕ, Bool, Some, List, Result, Err, if◌then◌else◌}
use Rattle.wire_spec.specs.declared.faults.TextFault.{TextFault}
use Rattle.wire_spec.specs.Text.{text_within}
use Rattle.wire_spec.specs.Packets as packets
use Rattle.file_spec.specs.Primaries.{primary_limit}
use Rattle.view_spec.specs.Seen as seen
use Rattle.rtt_attend.specs.declared.inputs.Sender.{Sender}
use Rattle.wire_spec.specs.Dump.{Item}
use Rattle.view_spec.specs.declared.tallies.Tally.{Tally}
use Rattle.view_spec.specs.Seen.{Fate, NoPacket, Reception, Refused, fate_of, is_foreign, is_packet, is_refused, is_text, many}
use Rattle.rtpdump_io.specs.declared.items.DumpItem.{DumpItem}
use Rattle.rtpdump_io.specs.declared.items.DumpItem.TheVariants.{Packet, Rtcp, Cut, Large, End}

-- this sender is heard
abbrev pub hears_so : Sender → Reception
hears_so s = record { ssrc = s.ssrc; payload_types = s.payload_types; wait = 0 }

-- what becomes of a packet with this fault
abbrev pub fate_of_fault : TextFault → Fate
fate_of_fault fault = fate_of (Err fault)

-- the packet of the sender that these octets are, or why they are none
abbrev pub text_from : Sender → List ℕ → Result packets.Packet TextFault
text_from s octets = text_within (primary_limit s.long) octets (Some s.ssrc) s.payload_types

-- what becomes of a record, whose octets these are where it is a packet
abbrev pub fate_in : Sender → DumpItem → List ℕ → Fate
fate_in s (Packet at) out = fate_of (text_from s out)
fate_in s (Rtcp at) out = NoPacket
fate_in s (Cut at) out = Refused
fate_in s (Large at) out = Refused
fate_in s End out = NoPacket

-- what becomes of an item
abbrev pub fate_at : Sender → Item → Fate
fate_at s item = seen.fate_in (primary_limit s.long) (hears_so s) item

-- nothing was counted
abbrev pub untallied : Tally
untallied = record { came = 0; text = 0; refused = 0; foreign = 0; senders = 0 }

-- 1 where it is so, and else 0
abbrev pub one_if : Bool → ℕ
one_if b = if b then 1 else 0

-- a record of which this becomes was counted
pub record CountsFate (fate : Fate) (old new : Tally) : Type 0 where
  pub came : new.came ≡ old.came + one_if (is_packet fate)
  pub text : new.text ≡ old.text + one_if (is_text fate)
  pub refused : new.refused ≡ old.refused + one_if (is_refused fate)
  pub foreign : new.foreign ≡ old.foreign + one_if (is_foreign fate)
  pub senders : new.senders ≡ old.senders

-- so few were counted that one more can be
pub record IsFew (y : Tally) : Type 0 where
  pub came : y.came < 2 ^ 32
  pub text : y.text ≤ y.came
  pub refused : y.refused ≤ y.came
  pub foreign : y.foreign ≤ y.came

-- of all these items so much was counted, and these are left
pub record IsCounted (s : Sender) (y : Tally) (left all : List Item) : Type 0 where
  pub came : y.came + many is_packet (fate_at s) left ≡ many is_packet (fate_at s) all
  pub text : y.text + many is_text (fate_at s) left ≡ many is_text (fate_at s) all
  pub refused : y.refused + many is_refused (fate_at s) left ≡ many is_refused (fate_at s) all
  pub foreign : y.foreign + many is_foreign (fate_at s) left ≡ many is_foreign (fate_at s) all
