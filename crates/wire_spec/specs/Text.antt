-- The packet of text that octets are, or why they are none (RFC 4103, section 4; RFC 9071: one source per packet).
use Rattle.std.specs.Prelude.{ℕ, ◌==◌, Bool, true, Option, None, Some, unwrap_or, List, length, Result, Ok, Err, nat_lt, if◌then◌else◌}
use Rattle.rtt_base.specs.declared.blocks.TextBlock.{TextBlock}
use Rattle.rtt_base.specs.declared.text_packets.PayloadTypes.{PayloadTypes}
use Rattle.wire_spec.specs.declared.faults.TextFault.{TextFault}
use Rattle.wire_spec.specs.declared.faults.TextFault.TheVariants.{Sources, Long, Foreign}
use Rattle.wire_spec.specs.Faults.{header_fault, blocks_fault}
use Rattle.rtt_base.specs.Steps.{◌>>=◌}
use Rattle.wire_spec.specs.Packets.{Packet, redundant, primary_text}
use Rattle.wire_spec.specs.Rtp.{Reading, rtp}
use Rattle.wire_spec.specs.Red.{red_within}
use Rattle.rtt_base.specs.declared.limits.TheConstants.{MOST_PACKET_OCTETS, MOST_TEXT_OCTETS}

abbrev pub refused_as : {A E : Type 0} → (E → TextFault) → Result A E → Result A TextFault
refused_as fault (Ok x) = Ok x
refused_as fault (Err e) = Err (fault e)

-- whether this SSRC is asked for: any is, where none is named
abbrev pub is_asked : Option ℕ → ℕ → Bool
is_asked None ssrc = true
is_asked (Some asked) ssrc = ssrc == asked

-- of its stream, and with at most one CSRC
abbrev pub accepted : Option ℕ → Reading → Result Reading TextFault
accepted asked r = if is_asked asked r.ssrc then (if nat_lt 1 r.cc then Err Sources else Ok r) else Err Foreign

-- the packet of these blocks: its source is the only CSRC, or the SSRC
abbrev pub text_packet : Reading → List TextBlock → Packet
text_packet r blocks =
    record { marker_bit = r.marker_bit; seq = r.seq; timestamp = r.timestamp; ssrc = r.ssrc; source = unwrap_or r.csrc r.ssrc; older = redundant blocks; primary = primary_text blocks }

-- a packet of at most 4224 octets, whose primary text has at most so many
unfoldable pub short_within : ℕ → List ℕ → Option ℕ → PayloadTypes → Result Packet TextFault
short_within most octets asked payload_types = do
  reading ← refused_as header_fault (rtp octets)
  r ← accepted asked reading
  blocks ← refused_as blocks_fault (red_within most r.payload r.pt payload_types)
  Ok (text_packet r blocks)

unfoldable pub text_within : ℕ → List ℕ → Option ℕ → PayloadTypes → Result Packet TextFault
text_within most octets asked payload_types = if nat_lt MOST_PACKET_OCTETS (length octets) then Err Long else short_within most octets asked payload_types

-- where the primary text is no longer than that of any block
abbrev pub text_of_short : List ℕ → Option ℕ → PayloadTypes → Result Packet TextFault
text_of_short octets asked payload_types = short_within MOST_TEXT_OCTETS octets asked payload_types

abbrev pub text_of : List ℕ → Option ℕ → PayloadTypes → Result Packet TextFault
text_of octets asked payload_types = text_within MOST_TEXT_OCTETS octets asked payload_types
