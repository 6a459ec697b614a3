-- The blocks of a payload: a plain text, or redundant blocks before a primary one (RFC 2198, section 3; RFC 4103, section 4).
use Rattle.std.specs.Prelude.{◌≡◌, ℕ, zero, suc, ◌+◌, ◌*◌, ◌/◌, ◌%◌, ◌^◌, ◌<◌, ◌≤◌, ◌≢◌, ◌==◌, List, [], ◌∷◌, ◌++◌, length, take, drop, Result, Ok, Err, nat_lt, if◌then◌else◌, IsUtf8, Bool, true, false, Option, None, Some, ◌&&◌, slice_index}
use Rattle.std.specs.List.{flat_map, AllByRecursion}
use Rattle.std.specs.Str.{is_utf8}
use Rattle.std.specs.Int.{bytes_high_first}
use Rattle.rtt_base.specs.declared.blocks.TextBlock.{TextBlock}
use Rattle.rtt_base.specs.declared.text_packets.PayloadTypes.{PayloadTypes}
use Rattle.wire_spec.specs.declared.faults.RedFault.{RedFault}
use Rattle.wire_spec.specs.declared.faults.RedFault.TheVariants.{WrongType, Cut, Many, Long, NotText}
use Rattle.wire_spec.specs.declared.headers.RedHeader.{RedHeader}
use Rattle.rtt_base.specs.Steps.{◌>>=◌}
use Rattle.wire_spec.specs.Packets.{primary, redundant, primary_text, HasPrimary}
use Rattle.rtt_base.specs.declared.limits.TheConstants.{MOST_TEXT_OCTETS}

-- ---- the payload as the sum of its parts

-- UTF-8 of at most 1023 octets
abbrev pub IsText : List ℕ → Type 0
IsText text = (length text < 2 ^ 10) × IsUtf8 text

-- a block whose header can be written
abbrev pub IsRedundant : TextBlock → Type 0
IsRedundant b = (b.offset < 2 ^ 14) × IsText b.text

-- the header of a redundant block: F is 1, then 14 bits of offset and 10 of length
abbrev pub red_header : ℕ → TextBlock → List ℕ
red_header t140 b = (128 + t140) ∷ bytes_high_first 3 (1024 * b.offset + length b.text)

-- the redundant headers, the last header, the redundant texts and the primary text
abbrev pub red_spelling : ℕ → List TextBlock → List ℕ → List ℕ
red_spelling t140 older text = flat_map (red_header t140) older ++ (t140 ∷ (flat_map (λ b. b.text) older ++ text))

-- the octets are these blocks, redundant ones first
pub record RedBlocks (octets : List ℕ) (t140 : ℕ) (blocks : List TextBlock) : Type 0 where
  pub older : List TextBlock
  pub text : List ℕ
  pub all : blocks ≡ older ++ primary text ∷ []
  pub parts : octets ≡ red_spelling t140 older text
  pub few : length older ≤ 8
  pub each : AllByRecursion IsRedundant older
  pub is_text : IsText text
  pub t140_fits : t140 < 2 ^ 7

-- the octets are one text
pub record PlainText (octets : List ℕ) (blocks : List TextBlock) : Type 0 where
  pub all : blocks ≡ primary octets ∷ []
  pub is_text : IsText octets

-- the payload of this type is these blocks
pub record Red (octets : List ℕ) (pt : ℕ) (payload_types : PayloadTypes) (blocks : List TextBlock) : Type 0 where
  pub plain : pt ≡ payload_types.t140 → PlainText octets blocks
  pub red : pt ≢ payload_types.t140 → (pt ≡ payload_types.red) × RedBlocks octets payload_types.t140 blocks

-- ---- reading, with the first test that fails

-- the headers, and the texts behind the last
pub record Headers : Type 0 where
  pub headers : List RedHeader
  pub texts : List ℕ

abbrev pub with_header : RedHeader → Headers → Headers
with_header h hs = record { headers = h ∷ hs.headers; texts = hs.texts }

-- the 24 bits behind the first octet of a redundant header
abbrev pub header_bits : List ℕ → ℕ
header_bits octets = 65536 * slice_index octets 1 + (256 * slice_index octets 2 + slice_index octets 3)

abbrev pub header_of : List ℕ → RedHeader
header_of octets = record { offset = header_bits octets / 1024; size = header_bits octets % 1024 }

-- the header in front: that of a redundant block, or none where it is the last, whose F is 0
abbrev pub header_at : Bool → ℕ → List ℕ → Result (Option RedHeader) RedFault
header_at full t140 octets =
    if length octets == 0 then Err Cut
    else (if nat_lt (slice_index octets 0) 128 then (if slice_index octets 0 == t140 then Ok None else Err WrongType)
    else (if nat_lt (length octets) 4 then Err Cut
    else (if full then Err Many
    else (if slice_index octets 0 == 128 + t140 then Ok (Some (header_of octets)) else Err WrongType))))

-- what comes of a header and of the others, as they were read
abbrev pub and_others : List ℕ → Result Headers RedFault → Option RedHeader → Result Headers RedFault
and_others octets others None = Ok (record { headers = []; texts = drop 1 octets })
and_others octets others (Some h) = others >>= λ hs. Ok (with_header h hs)

-- the headers up to the last, with at most so many redundant ones
unfoldable pub headers_at : ℕ → ℕ → List ℕ → Result Headers RedFault
headers_at zero t140 octets = header_at true t140 octets >>= and_others octets (Err Many)
headers_at (suc room) t140 octets = header_at false t140 octets >>= and_others octets (headers_at room t140 (drop 4 octets))

-- how many octets the redundant texts have
abbrev pub older_size : List RedHeader → ℕ
older_size [] = 0
older_size (h ∷ hs) = h.size + older_size hs

-- each header's text, and then the primary one
abbrev pub blocks_at : List RedHeader → List ℕ → List TextBlock
blocks_at [] octets = primary octets ∷ []
blocks_at (h ∷ hs) octets = record { offset = h.offset; text = take h.size octets } ∷ blocks_at hs (drop h.size octets)

abbrev pub all_utf8 : List TextBlock → Bool
all_utf8 [] = true
all_utf8 (b ∷ bs) = is_utf8 b.text && all_utf8 bs

abbrev pub checked : List TextBlock → Result (List TextBlock) RedFault
checked blocks = if all_utf8 blocks then Ok blocks else Err NotText

-- the blocks of these headers in the octets behind them, where the primary text has at most so many
unfoldable pub texts_within : ℕ → List RedHeader → List ℕ → Result (List TextBlock) RedFault
texts_within most hs octets =
    if nat_lt (length octets) (older_size hs) then Err Cut
    else (if nat_lt (older_size hs + most) (length octets) then Err Long
    else checked (blocks_at hs octets))

unfoldable pub red_within : ℕ → List ℕ → ℕ → PayloadTypes → Result (List TextBlock) RedFault
red_within most octets pt payload_types =
    if pt == payload_types.t140 then texts_within most [] octets
    else (if pt == payload_types.red then (headers_at 8 payload_types.t140 octets >>= λ hs. texts_within most hs.headers hs.texts) else Err WrongType)

-- where it is no longer than the text of any block
abbrev pub texts_at : List RedHeader → List ℕ → Result (List TextBlock) RedFault
texts_at hs octets = texts_within MOST_TEXT_OCTETS hs octets

abbrev pub red : List ℕ → ℕ → PayloadTypes → Result (List TextBlock) RedFault
red octets pt payload_types = red_within MOST_TEXT_OCTETS octets pt payload_types

-- ---- writing

-- the one spelling in red form: the last block is the primary one
abbrev pub red_written : List TextBlock → PayloadTypes → List ℕ
red_written blocks payload_types = red_spelling payload_types.t140 (redundant blocks) (primary_text blocks)

-- what has a spelling
pub record FitsRed (blocks : List TextBlock) (payload_types : PayloadTypes) : Type 0 where
  pub all : HasPrimary blocks
  pub few : length blocks ≤ 9
  pub each : AllByRecursion IsRedundant (redundant blocks)
  pub is_text : IsText (primary_text blocks)
  pub t140 : payload_types.t140 < 2 ^ 7
  pub differ : payload_types.t140 ≢ payload_types.red
