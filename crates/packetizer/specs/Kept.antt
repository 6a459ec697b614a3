-- The blocks that a window keeps, and those of a packet that repeat them (RFC 2198, section 3; the offsets of empty
-- blocks are a profile).
use Rattle.std.specs.Prelude.{ℕ, ◌≤◌, List, ◌++◌, length, map, min, take, drop, if◌then◌else◌}
use Rattle.std.specs.List.{All}
use Rattle.rtt_base.specs.declared.blocks.TextBlock.{TextBlock}
use Rattle.rtt_base.specs.Timestamps.{ahead}
use Rattle.packetizer.specs.declared.slots.KeptBlock.{KeptBlock}
use Rattle.rtt_base.specs.declared.limits.TheConstants.{MOST_OFFSET, MOST_TEXT_OCTETS}

-- places that are written over in turn, from the oldest block on
abbrev pub in_turn : ℕ → List KeptBlock → List KeptBlock
in_turn oldest places = drop oldest places ++ take oldest places

-- how far a kept block lies before a packet with this timestamp: at most MOST_OFFSET, and MOST_OFFSET where nothing was sent
abbrev pub offset_kept : ℕ → KeptBlock → ℕ
offset_kept timestamp b = if b.sent then min MOST_OFFSET (ahead timestamp b.timestamp) else MOST_OFFSET

-- the block, in a packet with this timestamp, that repeats a kept one
abbrev pub block_kept : ℕ → KeptBlock → TextBlock
block_kept timestamp b = record { offset = offset_kept timestamp b; text = b.text }

-- the blocks that repeat these
abbrev pub blocks_kept : ℕ → List KeptBlock → List TextBlock
blocks_kept timestamp kept = map (block_kept timestamp) kept

-- each text fits into a block
abbrev pub AreShort : List KeptBlock → Type 0
AreShort kept = All (λ b. length b.text ≤ MOST_TEXT_OCTETS) kept
