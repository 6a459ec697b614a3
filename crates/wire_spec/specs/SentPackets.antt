-- The octets of a packet of text that is sent: in red form where it repeats at least one block, else in plain form
-- (RFC 4103, sections 3 and 4; RFC 3550, section 5.1; RFC 2198, section 3). A source other than the stream's own is its
-- one CSRC (RFC 9071).
use Rattle.std.specs.Prelude.{ℕ, ◌≢◌, ◌<◌, ◌≤◌, ◌^◌, ◌==◌, Option, None, Some, List, [], ◌∷◌, length, if◌then◌else◌}
use Rattle.std.specs.List.{AllByRecursion}
use Rattle.rtt_base.specs.declared.blocks.TextBlock.{TextBlock}
use Rattle.rtt_base.specs.declared.text_packets.PayloadTypes.{PayloadTypes}
use Rattle.wire_spec.specs.Packets.{Packet}
use Rattle.wire_spec.specs.Rtp.{Head, rtp_written}
use Rattle.wire_spec.specs.Red.{IsText, IsRedundant, red_spelling}

-- the source, where it is named by a CSRC
abbrev pub csrc_of : Packet → Option ℕ
csrc_of p = if p.source == p.ssrc then None else Some p.source

-- the payload type of a primary text behind these blocks
abbrev pub type_sent : PayloadTypes → List TextBlock → ℕ
type_sent payload_types [] = payload_types.t140
type_sent payload_types (b ∷ bs) = payload_types.red

-- the payload of a primary text behind these blocks
abbrev pub payload_sent : PayloadTypes → List TextBlock → List ℕ → List ℕ
payload_sent payload_types [] text = text
payload_sent payload_types (b ∷ bs) text = red_spelling payload_types.t140 (b ∷ bs) text

abbrev pub head_of : PayloadTypes → Packet → Head
head_of payload_types p =
    record { marker_bit = p.marker_bit; pt = type_sent payload_types p.older; seq = p.seq; timestamp = p.timestamp; ssrc = p.ssrc; csrc = csrc_of p }

abbrev pub packet_written : PayloadTypes → Packet → List ℕ
packet_written payload_types p = rtp_written (head_of payload_types p) (payload_sent payload_types p.older p.primary)

-- what has such octets, in a stream with these payload types
pub record FitsPacket (payload_types : PayloadTypes) (p : Packet) : Type 0 where
  pub seq : p.seq < 2 ^ 16
  pub timestamp : p.timestamp < 2 ^ 32
  pub ssrc : p.ssrc < 2 ^ 32
  pub source : p.source < 2 ^ 32
  pub few : length p.older ≤ 8
  pub older : AllByRecursion IsRedundant p.older
  pub primary : IsText p.primary
  pub t140 : payload_types.t140 < 2 ^ 7
  pub red : payload_types.red < 2 ^ 7
  pub differ : payload_types.t140 ≢ payload_types.red
