-- Packets of text and their arrivals, as the laws on streams see them (RFC 2198, section 3; RFC 4103, section 4).
use Rattle.std.specs.Prelude.{◌≡◌, ℕ, ◌+◌, ◌-◌, ◌%◌, ◌^◌, Bool, true, false, List, [], ◌∷◌, ◌++◌, IsUtf8}
use Rattle.rtt_base.specs.declared.blocks.TextBlock.{TextBlock}
use Rattle.rtt_base.specs.declared.text_packets.TextPacket.{TextPacket}

-- a packet: its redundant blocks, oldest first, and its primary text
pub record Packet : Type 0 where
  pub marker_bit : Bool
  pub seq : ℕ
  pub timestamp : ℕ
  pub ssrc : ℕ
  pub source : ℕ
  pub older : List TextBlock
  pub primary : List ℕ

-- a packet and the moment at which it came, in milliseconds
pub record Arrival : Type 0 where
  pub time : ℕ
  pub packet : Packet

-- all blocks but the last
abbrev pub redundant : List TextBlock → List TextBlock
redundant [] = []
redundant (b ∷ []) = []
redundant (b ∷ c ∷ bs) = b ∷ redundant (c ∷ bs)

-- the text of the last block
abbrev pub primary_text : List TextBlock → List ℕ
primary_text [] = []
primary_text (b ∷ []) = b.text
primary_text (b ∷ c ∷ bs) = primary_text (c ∷ bs)

-- the block of a primary text
abbrev pub primary : List ℕ → TextBlock
primary text = record { offset = 0; text = text }

-- the last block is a primary one
abbrev pub HasPrimary : List TextBlock → Type 0
HasPrimary blocks = blocks ≡ redundant blocks ++ primary (primary_text blocks) ∷ []

-- all blocks of a packet, the primary one last
abbrev pub blocks_of : Packet → List TextBlock
blocks_of p = p.older ++ primary p.primary ∷ []

-- what a program's packet stands for
abbrev pub packet_of : TextPacket → Packet
packet_of p =
    record { marker_bit = p.marker_bit; seq = p.seq; timestamp = p.timestamp; ssrc = p.ssrc; source = p.source; older = p.older; primary = p.primary }

-- ---- packets whose texts are UTF-8
abbrev pub AreTextBlocks : List TextBlock → Type 0
AreTextBlocks [] = Unit {0}
AreTextBlocks (b ∷ bs) = IsUtf8 b.text × AreTextBlocks bs

-- all texts of the packet are UTF-8
pub record IsTextPacket (p : Packet) : Type 0 where
  pub older : AreTextBlocks p.older
  pub primary : IsUtf8 p.primary

abbrev pub AreTextArrivals : List Arrival → Type 0
AreTextArrivals [] = Unit {0}
AreTextArrivals (a ∷ past) = IsTextPacket a.packet × AreTextArrivals past

-- ---- texts and timestamps of blocks
-- whether a block has text
abbrev pub has_text : List ℕ → Bool
has_text [] = false
has_text (x ∷ xs) = true

-- the timestamp of a block that lies this far before the packet's: they go round modulo 2^32
abbrev pub back : ℕ → ℕ → ℕ
back timestamp offset = (timestamp + 2 ^ 32 - offset) % 2 ^ 32
