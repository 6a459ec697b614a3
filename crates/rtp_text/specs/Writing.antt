-- What can be written of blocks (RFC 2198, section 3), and of a packet of text.
use Rattle.std.specs.Prelude.{ℕ, ◌<◌, ◌^◌, min, List}
use Rattle.std.specs.List.{flat_map}
use Rattle.rtt_base.specs.declared.blocks.TextBlock.{TextBlock}
use Rattle.wire_spec.specs.Packets.{Packet}
use Rattle.rtp_text.specs.declared.block_writers.BlockView.{BlockView}
use Rattle.rtp_text.specs.declared.block_writers.TextHead.{TextHead}
use Rattle.rtt_base.specs.declared.limits.TheConstants.{MOST_OFFSET}

-- the offset has fourteen bits
pub record HasOffset (b : TextBlock) : Type 0 where
  pub offset : b.offset < 2 ^ 14

-- the same block with an offset of at most fourteen bits
abbrev pub clamped : TextBlock → TextBlock
clamped b = record { offset = min b.offset MOST_OFFSET; text = b.text }

-- the texts one behind the other
abbrev pub text_octets : List TextBlock → List ℕ
text_octets blocks = flat_map (λ b. b.text) blocks

-- a block where it is kept, as a block
abbrev pub seen : BlockView → TextBlock
seen b = record { offset = b.offset; text = b.text.now }

-- the packet of these redundant blocks and this primary text
abbrev pub packet_with : TextHead → List TextBlock → List ℕ → Packet
packet_with h older text =
    record { marker_bit = h.marker_bit; seq = h.seq; timestamp = h.timestamp; ssrc = h.ssrc; source = h.source; older = older; primary = text }
