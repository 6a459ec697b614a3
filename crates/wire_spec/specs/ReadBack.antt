-- What the laws say of reading: what is read of the sum of its parts, and what was written is read back.
use Rattle.std.specs.Prelude.{◌≡◌, ℕ, ◌≤◌, true, List, length, map, Option, None, Ok}
use Rattle.std.specs.List.{AllByRecursion}
use Rattle.rtt_base.specs.declared.blocks.TextBlock.{TextBlock}
use Rattle.rtt_base.specs.declared.text_packets.PayloadTypes.{PayloadTypes}
use Rattle.wire_spec.specs.Packets.{Packet}
use Rattle.wire_spec.specs.Rtp.{IsOctets, Reading, Rtp, Head, FitsHeader, rtp, reading_of, rtp_written}
use Rattle.wire_spec.specs.Red.{Red, FitsRed, red, red_written}
use Rattle.wire_spec.specs.Text.{is_asked, text_packet, text_of}
use Rattle.wire_spec.specs.SentPackets.{FitsPacket, packet_written}
use Rattle.wire_spec.specs.Dump.{FitsRecord, Place, dump, dump_step, dump_written, records, records_by, records_within, sent_item}
use Rattle.rtt_base.specs.declared.limits.TheConstants.{MOST_PACKET_OCTETS}

-- ---- headers
-- A packet that is written is read back.
abbrev pub HeadersAreReadBack : Type 0
HeadersAreReadBack =
    (h : Head) (payload : List ℕ)
    → FitsHeader h
    → rtp (rtp_written h payload) ≡ Ok (reading_of h payload)

-- It has no other reading.
abbrev pub HeadersReadOneWay : Type 0
HeadersReadOneWay =
    (h : Head) (payload : List ℕ) (r : Reading)
    → FitsHeader h
    → Rtp (rtp_written h payload) r
    → r ≡ reading_of h payload

-- ---- payloads
-- A payload that is the sum of blocks is read as these.
abbrev pub SumsAreRead : Type 0
SumsAreRead =
    (octets : List ℕ) (pt : ℕ) (payload_types : PayloadTypes) (blocks : List TextBlock)
    → Red octets pt payload_types blocks
    → red octets pt payload_types ≡ Ok blocks

-- A payload is the sum of the blocks as which it is read.
abbrev pub ReadAreSums : Type 0
ReadAreSums =
    (octets : List ℕ) (pt : ℕ) (payload_types : PayloadTypes) (blocks : List TextBlock)
    → IsOctets octets
    → red octets pt payload_types ≡ Ok blocks
    → Red octets pt payload_types blocks

-- Blocks that are written are read back.
abbrev pub BlocksAreReadBack : Type 0
BlocksAreReadBack =
    (blocks : List TextBlock) (payload_types : PayloadTypes)
    → FitsRed blocks payload_types
    → red (red_written blocks payload_types) payload_types.red payload_types ≡ Ok blocks

-- They have no other reading.
abbrev pub BlocksReadOneWay : Type 0
BlocksReadOneWay =
    (blocks : List TextBlock) (payload_types : PayloadTypes) (others : List TextBlock)
    → FitsRed blocks payload_types
    → Red (red_written blocks payload_types) payload_types.red payload_types others
    → others ≡ blocks

-- ---- packets of text
-- the octets of a packet in red form
abbrev pub red_packet : Head → List TextBlock → PayloadTypes → List ℕ
red_packet h blocks payload_types = rtp_written h (red_written blocks payload_types)

-- A packet of text in red form is read back, where its stream is asked for.
abbrev pub RedPacketsAreReadBack : Type 0
RedPacketsAreReadBack =
    (h : Head) (blocks : List TextBlock) (asked : Option ℕ) (payload_types : PayloadTypes)
    → FitsHeader h
    → h.pt ≡ payload_types.red
    → FitsRed blocks payload_types
    → is_asked asked h.ssrc ≡ true
    → length (red_packet h blocks payload_types) ≤ MOST_PACKET_OCTETS
    → text_of (red_packet h blocks payload_types) asked payload_types ≡ Ok (text_packet (reading_of h (red_written blocks payload_types)) blocks)

-- A packet of text that is sent, in red form or in plain form, is read back, where its stream is asked for.
abbrev pub SentPacketsAreReadBack : Type 0
SentPacketsAreReadBack =
    (payload_types : PayloadTypes) (p : Packet) (asked : Option ℕ)
    → FitsPacket payload_types p
    → is_asked asked p.ssrc ≡ true
    → length (packet_written payload_types p) ≤ MOST_PACKET_OCTETS
    → text_of (packet_written payload_types p) asked payload_types ≡ Ok p

-- ---- recordings
-- What is still to come of a recording is one step and what comes after it.
abbrev pub RecordsUnroll : Type 0
RecordsUnroll =
    (limit : ℕ) (p : Place)
    → records limit p ≡ records_by (records limit) (dump_step limit p)

-- More steps than there are octets change nothing.
abbrev pub StepsAreEnough : Type 0
StepsAreEnough =
    (n limit : ℕ) (p : Place)
    → length p.rest ≤ n
    → records_within n limit p ≡ records limit p

-- A recording that is written is read back, wherever its packets and times fit and it has at most `limit` octets.
abbrev pub RecordingsAreReadBack : Type 0
RecordingsAreReadBack =
    (limit : ℕ) (rs : List (ℕ × List ℕ))
    → AllByRecursion FitsRecord rs
    → length (dump_written rs) ≤ limit
    → dump limit (dump_written rs) ≡ record { items = map sent_item rs; fault = None }
