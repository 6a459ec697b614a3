-- How many octets of text fit in a packet that is to be no greater than the way allows (profile).
use Rattle.std.specs.Prelude.{ℕ, ◌+◌, ◌-◌, ◌*◌, ◌/◌, ◌≤◌, Option, None, Some, length, min}
use Rattle.rtt_base.specs.declared.limits.TheConstants.{MOST_TEXT_OCTETS}
use Rattle.stream_spec.specs.Lists.{In}
use Rattle.stream_spec.specs.History.{History, Placed, Lawful, placed, octets}
use Rattle.stream_spec.specs.Own.{Own}
use Rattle.file_spec.specs.declared.limits.TheConstants.{LEAST_MTU}
use Rattle.mixer_spec.specs.declared.piece_limits.TheConstants.{MOST_PIECE_OCTETS}

-- the octets of a packet beside its texts, where it repeats g of them: up to 16 of its header, 4 of the header of each redundant
-- block, and one of the primary block's
abbrev pub beside_texts : ℕ → ℕ
beside_texts g = 17 + 4 * g

-- How many octets each text of a stream may have that repeats g of them, where a packet may have `most`: with its repeats each
-- text is in g + 1 packets.
abbrev pub room : ℕ → ℕ → ℕ
room most g = min MOST_TEXT_OCTETS ((most - beside_texts g) / (g + 1))

-- ---- as a conference says it
-- the room where packets are limited, if they are
abbrev pub room_within : Option ℕ → ℕ → ℕ
room_within None g = MOST_TEXT_OCTETS
room_within (Some most) g = room most g

-- how long a piece may be there
abbrev pub piece_within : Option ℕ → ℕ
piece_within None = MOST_TEXT_OCTETS
piece_within (Some most) = MOST_PIECE_OCTETS

-- ---- the laws
-- no text of the history has more octets than its room
abbrev pub HasRoom : ℕ → ℕ → History → Type 0
HasRoom most g h = (x : Placed) → In x (placed h) → length x.text ≤ room most g

-- Then no packet of it is greater.
abbrev pub TextsFit : Type 0
TextsFit =
    (most g : ℕ) (h : History)
    → g ≤ 3 → beside_texts g ≤ most
    → Lawful h → Own g h
    → HasRoom most g h
    → (x : Placed) → In x (placed h)
    → octets h x ≤ most

-- Each piece goes into each room,
abbrev pub PieceHasRoom : Type 0
PieceHasRoom = (most g : ℕ) → LEAST_MTU ≤ most → g ≤ 3 → MOST_PIECE_OCTETS ≤ room most g

-- and each room into a block.
abbrev pub NoRoomIsGreater : Type 0
NoRoomIsGreater = (most g : ℕ) → room most g ≤ MOST_TEXT_OCTETS
