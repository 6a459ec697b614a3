-- How a packet is written of what stands in a log.
use Rattle.std.specs.Prelude.{◌+◌, ◌*◌, ◌<◌, ◌≤◌, ◌==◌, ℕ, Bool, Option, MatchOption, All, List, [], ◌∷◌, length, map, not, slice_index, slice_index_or, if◌then◌else◌}
use Rattle.std.specs.List.{flat_map, list_any}
use Rattle.std.specs.Int.{bytes_high_first}
use Rattle.rtt_base.specs.declared.blocks.TextBlock.{TextBlock}
use Rattle.rtt_base.specs.declared.limits.TheConstants.{MOST_PACKET_OCTETS}
use Rattle.wire_spec.specs.Red.{red_header}
use Rattle.rtp_text.specs.declared.block_writers.TextHead.{TextHead}
use Rattle.wire_spec.specs.SentPackets.{packet_written}
use Rattle.rtp_text.specs.Writing.{packet_with}
use Rattle.packetizer.specs.declared.slots.KeptBlock.{KeptBlock}
use Rattle.packetizer.specs.Kept.{block_kept, blocks_kept}
use Rattle.sent_log.specs.declared.repeats.PacketKey.{PacketKey}
use Rattle.sent_log.specs.declared.terminals.LoggedPacket.{LoggedPacket}
use Rattle.sent_log.specs.declared.terminals.TerminalLog.{TerminalLog}
use Rattle.sent_log.specs.Lists.{list_at, octets_at}

-- ---- texts

-- the entry with this number
abbrev pub entry_at : List LoggedPacket → ℕ → LoggedPacket
entry_at entries n = slice_index_or entries n (record { turn = 0; place = 0; len = 0; source = 0 })

-- the text of an entry of the terminal
abbrev pub text_in : List (List ℕ) → TerminalLog → LoggedPacket → List ℕ
text_in texts t e = octets_at (list_at texts (t.first + e.source)) e.place e.len

-- the text of a packet that is kept
abbrev pub kept_text : List (List ℕ) → TerminalLog → PacketKey → List ℕ
kept_text texts t k = if k.sent then text_in texts t (entry_at t.entries.items k.number) else []

abbrev pub kept_in : List (List ℕ) → TerminalLog → PacketKey → KeptBlock
kept_in texts t k = record { sent = k.sent; timestamp = k.timestamp; text = kept_text texts t k }

-- the texts of these packets, one behind the other
abbrev pub kept_texts : List (List ℕ) → TerminalLog → List PacketKey → List ℕ
kept_texts texts t kept = flat_map (kept_text texts t) kept

-- the blocks that repeat them in a packet with this timestamp
abbrev pub blocks_in : List (List ℕ) → TerminalLog → ℕ → List PacketKey → List TextBlock
blocks_in texts t timestamp kept = blocks_kept timestamp (map (kept_in texts t) kept)

-- the header of one of these blocks
abbrev pub kept_header : List (List ℕ) → TerminalLog → ℕ → ℕ → PacketKey → List ℕ
kept_header texts t timestamp t140 k = red_header t140 (block_kept timestamp (kept_in texts t k))

-- one of these packets has text
abbrev pub have_text : List (List ℕ) → TerminalLog → List PacketKey → Bool
have_text texts t kept = list_any (λ b. not (length b.text == 0)) (map (kept_in texts t) kept)

-- the header of a block with this offset, of so many octets
abbrev pub header_of_sizes : (t140 offset len : ℕ) → List ℕ
header_of_sizes t140 offset len = (128 + t140) ∷ bytes_high_first 3 (1024 * offset + len)

-- ---- what is there

-- the text of an entry
pub record HasText (texts : List (List ℕ)) (t : TerminalLog) (e : LoggedPacket) : Type 0 where
  pub source : e.source < length t.sources.items
  pub short : e.len < 1024
  pub within : e.place + e.len ≤ length (list_at texts (t.first + e.source))

-- that of each
pub record HasTexts (texts : List (List ℕ)) (t : TerminalLog) : Type 0 where
  pub lists : t.first + length t.sources.items ≤ length texts
  pub each : All (HasText texts t) t.entries.items

-- what the packet of an entry says beside its blocks
abbrev pub head_in : TerminalLog → (marker_bit : Bool) → (seq timestamp source : ℕ) → TextHead
head_in t marker_bit seq timestamp source = record { marker_bit = marker_bit; seq = seq; timestamp = timestamp; ssrc = t.settings.ssrc; source = slice_index t.sources.items source }

-- the octets of the packet of an entry that repeats these
abbrev pub packet_in : List (List ℕ) → TerminalLog → List PacketKey → LoggedPacket → TextHead → List ℕ
packet_in texts t older e head = packet_written t.settings.payload_types (packet_with head (blocks_in texts t head.timestamp older) (text_in texts t e))

-- ---- where it is written

-- there is a greatest length, and any packet fits behind these octets
abbrev pub HasRoom : Option ℕ → List ℕ → Type 0
HasRoom greatest before = MatchOption greatest ⊥ (λ most. length before + MOST_PACKET_OCTETS ≤ most)
