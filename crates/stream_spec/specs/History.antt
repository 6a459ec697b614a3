-- What was sent: a history of entries, which packets are its packets, and which of its places came in time
-- (RFC 4103, section 4; RFC 2198, section 3; the limits of a lawful history are a profile).
use Rattle.std.specs.Prelude.{◌≡◌, ℕ, ◌+◌, ◌-◌, ◌*◌, ◌%◌, ◌^◌, ◌<◌, ◌≤◌, ◌==◌, ◌⊎◌, Bool, true, Option, None, Some, List, [], ◌∷◌, ◌++◌, length, map, filter, replicate, ◌&&◌, nat_lt, nat_le, if◌then◌else◌, max, IsUtf8}
use Rattle.std.specs.List.{AllZip, concat}
use Rattle.rtt_base.specs.declared.blocks.TextBlock.{TextBlock}
use Rattle.stream_spec.specs.Lists.{In, put_by}
use Rattle.wire_spec.specs.Packets.{Packet, Arrival, has_text}
use Rattle.stream_spec.specs.Numbering.{in_time, numbered, number_it}
use Rattle.stream_spec.specs.Hearing.{oldest_offset}
use Rattle.rtt_base.specs.declared.limits.TheConstants.{MOST_OFFSET, MOST_PACKET_OCTETS, MOST_TEXT_OCTETS}

-- A text that was sent: `generations` is the number of redundant blocks beside it, `reach` the offset of the oldest of
-- them.
pub record Entry : Type 0 where
  pub source : ℕ
  pub media : ℕ
  pub text : List ℕ
  pub generations : ℕ
  pub reach : ℕ

-- the entries, oldest first, of a stream with this SSRC, first sequence number, and timestamp at media time 0
pub record History : Type 0 where
  pub ssrc : ℕ
  pub first : ℕ
  pub base : ℕ
  pub entries : List Entry

-- an entry with its place, and its index among those of its source
pub record Placed : Type 0 where
  pub place : ℕ
  pub index : ℕ
  pub source : ℕ
  pub media : ℕ
  pub text : List ℕ
  pub generations : ℕ
  pub reach : ℕ

-- how many entries are of the source
abbrev pub entry_count : ℕ → List Entry → ℕ
entry_count s [] = 0
entry_count s (e ∷ es) = (if e.source == s then 1 else 0) + entry_count s es

abbrev pub placed_at : List Entry → Entry → Placed
placed_at before e = record { place = length before; index = entry_count e.source before; source = e.source; media = e.media; text = e.text; generations = e.generations; reach = e.reach }

abbrev pub placed_after : List Entry → List Entry → List Placed
placed_after before [] = []
placed_after before (e ∷ es) = placed_at before e ∷ placed_after (e ∷ before) es

abbrev pub placed : History → List Placed
placed h = placed_after [] h.entries

-- the n entries before x of its source, or as many as there are
abbrev pub before : History → ℕ → Placed → List Placed
before h n x = filter (λ y. (y.source == x.source) && (nat_le (x.index - n) y.index && nat_lt y.index x.index)) (placed h)

-- the least index that x repeats
abbrev pub low : Placed → ℕ
low x = x.index - x.generations

-- the entries that x repeats
abbrev pub window : History → Placed → List Placed
window h x = before h x.generations x

abbrev pub nones : ℕ → List (Option Placed)
nones n = replicate n None

-- for each redundant block of x the entry that it repeats, if there is one
abbrev pub slots : History → Placed → List (Option Placed)
slots h x = nones (x.generations - x.index) ++ map Some (window h x)

-- The block of x repeats this entry: its text, at the exact distance; at most the distance where there is no text.
abbrev pub Repeats : Placed → TextBlock → Option Placed → Type 0
Repeats x b None = b.text ≡ []
Repeats x b (Some y) = (b.text ≡ y.text) × (b.offset + y.media ≤ x.media) × (has_text y.text ≡ Bool.true → b.offset + y.media ≡ x.media)

-- p is a packet of the entry x
pub record IsPacket (h : History) (x : Placed) (p : Packet) : Type 0 where
  pub seq : p.seq ≡ (h.first + x.place) % 65536
  pub timestamp : p.timestamp ≡ (h.base + x.media) % 2 ^ 32
  pub ssrc : p.ssrc ≡ h.ssrc
  pub source : p.source ≡ x.source
  pub primary : p.primary ≡ x.text
  pub count : length p.older ≡ x.generations
  pub older : AllZip (Repeats x) p.older (slots h x)
  pub oldest : oldest_offset p.older ≡ x.reach

-- The oldest block of x reaches no farther than to an entry that x repeats.
abbrev pub ReachFits : History → Placed → Type 0
ReachFits h x = x.generations ≤ x.index → ((x.generations ≡ 0) × (x.reach ≡ 0)) ⊎ ((y : Placed) × In y (window h x) × (x.reach + y.media ≤ x.media))

abbrev pub texts_of : List Placed → List (List ℕ)
texts_of [] = []
texts_of (x ∷ xs) = x.text ∷ texts_of xs

-- The octets of the packet of x in red form: the fixed header and, where the source is another than the stream's, one
-- CSRC; the block headers; the texts.
abbrev pub octets : History → Placed → ℕ
octets h x = (if x.source == h.ssrc then 12 else 16) + (4 * x.generations + 1) + length (concat (texts_of (window h x)) ++ x.text)

pub record Lawful (h : History) : Type 0 where
  pub orders : (x y : Placed) → In x (placed h) → In y (placed h) → x.place ≤ y.place → x.media ≤ y.media
  pub spans : (x y : Placed) → In x (placed h) → In y (placed h) → x.media < y.media + 2 ^ 31
  pub rises : (x y : Placed) → In x (placed h) → In y (placed h) → x.source ≡ y.source → x.place < y.place
      → x.media < y.media
  pub low_rises : (x y : Placed) → In x (placed h) → In y (placed h) → x.source ≡ y.source → x.place < y.place
      → low x ≤ low y
  pub near : (x y : Placed) → In x (placed h) → In y (placed h) → x.source ≡ y.source → x.index < y.index
      → low y ≤ x.index
      → has_text x.text ≡ true → y.media ≤ x.media + MOST_OFFSET
  pub generations : (x : Placed) → In x (placed h) → x.generations ≤ 8
  pub reach : (x : Placed) → In x (placed h) → x.reach < 2 ^ 14
  pub reach_fits : (x : Placed) → In x (placed h) → ReachFits h x
  pub text : (x : Placed) → In x (placed h) → IsUtf8 x.text
  -- one that is repeated has at most 1023 octets
  pub repeated : (x y : Placed) → In x (placed h) → In y (placed h) → x.source ≡ y.source → x.index < y.index → low y ≤ x.index → length x.text ≤ MOST_TEXT_OCTETS
  pub sized : (x : Placed) → In x (placed h) → octets h x ≤ MOST_PACKET_OCTETS

abbrev pub nowhere : Placed
nowhere = record { place = 0; index = 0; source = 0; media = 0; text = []; generations = 0; reach = 0 }

-- the entry that the source and the timestamp of a packet name
abbrev pub named : ℕ → Packet → List Placed → Placed
named base p [] = nowhere
named base p (x ∷ xs) = if (x.source == p.source) && (((base + x.media) % 2 ^ 32) == p.timestamp) then x else named base p xs

abbrev pub entry_of : History → Packet → Placed
entry_of h p = named h.base p (placed h)

-- the greatest place of all
abbrev pub top_place : History → List Arrival → ℕ
top_place h [] = 0
top_place h (a ∷ past) = max (top_place h past) (entry_of h a.packet).place

-- the place k is at most 32767 from the greatest one
abbrev pub IsNear : History → ℕ → List Arrival → Type 0
IsNear h k [] = Unit {0}
IsNear h k (a ∷ past) = (k ≤ top_place h (a ∷ past) + 32767) × (top_place h (a ∷ past) ≤ k + 32767)

-- each of these arrivals, newest first, is a packet of the entry that it names, near the greatest place before it
abbrev pub Come : History → List Arrival → Type 0
Come h [] = Unit {0}
Come h (a ∷ past) = In (entry_of h a.packet) (placed h) × IsPacket h (entry_of h a.packet) a.packet × IsNear h (entry_of h a.packet).place past × Come h past

-- e among these, which rise in place
abbrev pub by_place : Placed → List Placed → List Placed
by_place e xs = put_by (λ x. x.place) e xs

-- the places of what came in time, rising
abbrev pub places : ℕ → History → List Arrival → List Placed
places wait h [] = []
places wait h (a ∷ past) =
    if in_time wait (number_it (numbered past) a) (numbered past)
    then by_place (entry_of h a.packet) (places wait h past)
    else places wait h past
