-- What `list` prints of a recording: a line for each record, and how many there are (profile). Each line ends with LF.
use Rattle.std.specs.Prelude.{ℕ, Bool, true, false, None, List, ◌++◌, length, flat_map, Result, Ok, Err, codes, decimal}
use Rattle.rtt_base.specs.declared.blocks.TextBlock.{TextBlock}
use Rattle.rtt_base.specs.declared.text_packets.PayloadTypes.{PayloadTypes}
use Rattle.wire_spec.specs.declared.faults.TextFault.{TextFault}
use Rattle.wire_spec.specs.declared.faults.TextFault.TheVariants.{Short, Version, Padding, Sources, WrongType, Cut, Many, Long, NotText, Foreign}
use Rattle.wire_spec.specs.Packets.{Packet, blocks_of}
use Rattle.wire_spec.specs.Text.{text_of}
use Rattle.wire_spec.specs.Dump.{Item, Whole, Rtcp}
use Rattle.wire_spec.specs.Dump as dumps

abbrev pub fault_name : TextFault → List ℕ
fault_name Short = codes "Short"
fault_name Version = codes "Version"
fault_name Padding = codes "Padding"
fault_name Sources = codes "Sources"
fault_name WrongType = codes "WrongType"
fault_name Cut = codes "Cut"
fault_name Many = codes "Many"
fault_name Long = codes "Long"
fault_name NotText = codes "NotText"
fault_name Foreign = codes "Foreign"

-- the M bit
abbrev pub bit : Bool → List ℕ
bit true = codes "1"
bit false = codes "0"

-- the octets of a block's text
abbrev pub block_length : TextBlock → List ℕ
block_length block = codes " " ++ decimal (length block.text)

-- a packet that is one of text, with the lengths of its blocks: oldest first, the primary one last
unfoldable pub packet_line : ℕ → Packet → List ℕ
packet_line at p = decimal at ++ codes " " ++ decimal p.seq ++ codes " mark " ++ bit p.marker_bit
    ++ codes " stamp " ++ decimal p.timestamp
    ++ codes " ssrc " ++ decimal p.ssrc ++ codes " source " ++ decimal p.source
    ++ codes " texts" ++ flat_map block_length (blocks_of p) ++ codes "\n"

-- a packet that is none, with the first test that fails
abbrev pub refused_line : ℕ → TextFault → List ℕ
refused_line at fault = decimal at ++ codes " refused " ++ fault_name fault ++ codes "\n"

abbrev pub sent_line : ℕ → Result Packet TextFault → List ℕ
sent_line at (Ok packet) = packet_line at packet
sent_line at (Err fault) = refused_line at fault

abbrev pub record_line : PayloadTypes → Item → List ℕ
record_line payload_types item =
    elim item.what [
      | Whole octets ↦ sent_line item.time (text_of octets None payload_types)
      | Rtcp ↦ decimal item.time ++ codes " rtcp\n"
      | dumps.Cut ↦ decimal item.time ++ codes " cut\n"
      | dumps.Large ↦ decimal item.time ++ codes " large\n"
    ]

abbrev pub last_line : ℕ → List ℕ
last_line records = codes "-- records " ++ decimal records ++ codes "\n"

-- all lines of a recording
unfoldable pub list_view : PayloadTypes → List Item → List ℕ
list_view payload_types items = flat_map (record_line payload_types) items ++ last_line (length items)
