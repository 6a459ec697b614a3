-- What the laws say of windows, and of packets of a stream of at most three generations.
use Rattle.std.specs.Prelude.{◌≡◌, ◌≢◌, ◌+◌, ◌%◌, ◌^◌, ◌<◌, ◌≤◌, ◌∷◌, ℕ, List, length}
use Rattle.rtt_base.specs.declared.text_packets.PayloadTypes.{PayloadTypes}
use Rattle.rtt_base.specs.declared.limits.TheConstants.{MOST_PACKET_OCTETS}
use Rattle.wire_spec.specs.SentPackets.{FitsPacket, packet_written}
use Rattle.stream_spec.specs.Own.{Sent, Stream, repeats, Sendable, packet_after}
use Rattle.packetizer.specs.declared.slots.KeptBlock.{KeptBlock}
use Rattle.packetizer.specs.Kept.{blocks_kept}
use Rattle.packetizer.specs.WindowStanding.{WindowStandsFor, MayFollow}

abbrev pub WindowsRepeat : Type 0
WindowsRepeat =
    (g base media timestamp : ℕ) (kept : List KeptBlock) (past : List Sent) → WindowStandsFor g base kept past
    → timestamp ≡ (base + media) % 2 ^ 32
    → MayFollow g media past
    → blocks_kept timestamp kept ≡ repeats g media past

-- they have octets that are read back
abbrev pub PacketsFit : Type 0
PacketsFit =
    (payload_types : PayloadTypes) (c : Stream) (past : List Sent) (e : Sent) → payload_types.t140 < 2 ^ 7
    → payload_types.red < 2 ^ 7 → payload_types.t140 ≢ payload_types.red
    → c.generations ≤ 3
    → c.ssrc < 2 ^ 32
    → e.source < 2 ^ 32
    → Sendable c (e ∷ past)
    → FitsPacket payload_types (packet_after c past e)

-- and few of them
abbrev pub PacketsAreShort : Type 0
PacketsAreShort =
    (payload_types : PayloadTypes) (c : Stream) (past : List Sent) (e : Sent) → c.generations ≤ 3
    → Sendable c (e ∷ past)
    → length (packet_written payload_types (packet_after c past e)) ≤ MOST_PACKET_OCTETS
