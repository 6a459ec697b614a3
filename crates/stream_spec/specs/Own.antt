-- A history as a sender of this bridge makes it, the one packet of each of its entries, and the history that packets
-- tell (RFC 4103, section 3.5, for the M bit; the offsets of empty blocks are a profile).
use Rattle.std.specs.Prelude.{◌≡◌, ℕ, zero, suc, ◌+◌, ◌-◌, ◌%◌, ◌^◌, ◌<◌, ◌==◌, Bool, not, true, Option, None, Some, List, [], ◌∷◌, ◌++◌, length, map, take, min, max, if◌then◌else◌, ◌≤◌, IsUtf8}
use Rattle.std.specs.List.{list_any}
use Rattle.rtt_base.specs.declared.blocks.TextBlock.{TextBlock}
use Rattle.rtt_base.specs.Timestamps.{ahead}
use Rattle.wire_spec.specs.Packets.{Packet, Arrival, has_text}
use Rattle.stream_spec.specs.Lists.{In}
use Rattle.stream_spec.specs.Hearing.{oldest_offset}
use Rattle.stream_spec.specs.History.{History, Entry, Placed, placed, before, slots, entry_count, IsNear}
use Rattle.rtt_base.specs.declared.limits.TheConstants.{MOST_OFFSET, MOST_TEXT_OCTETS}

-- how far an empty block is said to lie before the packet
abbrev pub offset_of : ℕ → ℕ → ℕ
offset_of media earlier = min MOST_OFFSET (media - earlier)

-- The block of x that repeats this entry: at the exact distance where it has text, else at most MOST_OFFSET, and
-- MOST_OFFSET where there is no entry.
abbrev pub block_of : Placed → Option Placed → TextBlock
block_of x None = record { offset = MOST_OFFSET; text = [] }
block_of x (Some y) = record { offset = if has_text y.text then x.media - y.media else offset_of x.media y.media; text = y.text }

-- The M bit: none of the entries that x repeats has text; where x repeats none, the one before it has none.
abbrev pub is_after_pause : History → Placed → Bool
is_after_pause h x = not (list_any (λ y. has_text y.text) (before h (max 1 x.generations) x))

-- the one packet of x
abbrev pub own_packet : History → Placed → Packet
own_packet h x = record {
  marker_bit = is_after_pause h x;
  seq = (h.first + x.place) % 65536;
  timestamp = (h.base + x.media) % 2 ^ 32;
  ssrc = h.ssrc;
  source = x.source;
  older = map (block_of x) (slots h x);
  primary = x.text;
}

-- arrivals of own packets, newest first, with their entries
abbrev pub come_from : History → List (ℕ × Placed) → List Arrival
come_from h [] = []
come_from h (a ∷ past) = record { time = a.0; packet = own_packet h a.1 } ∷ come_from h past

-- each of these entries is near the greatest place before it
abbrev pub NearEach : History → List (ℕ × Placed) → Type 0
NearEach h [] = Unit {0}
NearEach h (a ∷ past) = In a.1 (placed h) × (IsNear h a.1.place (come_from h past) × NearEach h past)

-- each entry has g redundant blocks, and `reach` is the offset of the oldest block of its packet
pub record Own (g : ℕ) (h : History) : Type 0 where
  pub generations : (x : Placed) → In x (placed h) → x.generations ≡ g
  pub reach : (x : Placed) → In x (placed h) → x.reach ≡ oldest_offset (own_packet h x).older

-- each text was repeated g times
abbrev pub Closed : ℕ → History → Type 0
Closed g h = (x : Placed) → In x (placed h) → has_text x.text ≡ true → x.index + g < entry_count x.source h.entries

-- The media time that a timestamp tells, where the entry before it has the media time m: the first one from m on.
abbrev pub media_of : ℕ → ℕ → ℕ → ℕ
media_of base m timestamp = m + ahead timestamp ((base + m) % 2 ^ 32)

-- the entries that packets tell, in order, after the media time m
abbrev pub entries_of : ℕ → ℕ → List Packet → List Entry
entries_of base m [] = []
entries_of base m (p ∷ ps) =
    record { source = p.source; media = media_of base m p.timestamp; text = p.primary; generations = length p.older; reach = oldest_offset p.older }
    ∷ entries_of base (media_of base m p.timestamp) ps

abbrev pub first_seq : List Packet → ℕ
first_seq [] = 0
first_seq (p ∷ ps) = p.seq

abbrev pub first_ssrc : List Packet → ℕ
first_ssrc [] = 0
first_ssrc (p ∷ ps) = p.ssrc

-- the history that packets tell, in order, where `base` is the timestamp of the media time 0
abbrev pub history_of : List Packet → ℕ → History
history_of packets base = record { ssrc = first_ssrc packets; first = first_seq packets; base = base; entries = entries_of base 0 packets }

-- ---- a history that grows: what was sent, newest first, each with its source on the wire
pub record Sent : Type 0 where
  pub source : ℕ
  pub media : ℕ
  pub text : List ℕ

-- a stream's SSRC, first sequence number, timestamp at media time 0, and number of generations
pub record Stream : Type 0 where
  pub ssrc : ℕ
  pub first : ℕ
  pub base : ℕ
  pub generations : ℕ

-- what was sent of the source
abbrev pub sent_of : ℕ → List Sent → List Sent
sent_of s [] = []
sent_of s (e ∷ past) = if e.source == s then e ∷ sent_of s past else sent_of s past

-- the k-th of these, counted from 0
abbrev pub nth : ℕ → List Sent → Option Sent
nth k [] = None
nth zero (e ∷ past) = Some e
nth (suc k) (e ∷ past) = nth k past

-- the block at this media time that repeats what was sent, if there was anything
abbrev pub repeat_of : ℕ → Option Sent → TextBlock
repeat_of media None = record { offset = MOST_OFFSET; text = [] }
repeat_of media (Some e) = record { offset = if has_text e.text then media - e.media else offset_of media e.media; text = e.text }

-- the blocks at this media time that repeat the last g of these, oldest first
abbrev pub repeats : ℕ → ℕ → List Sent → List TextBlock
repeats zero media past = []
repeats (suc g) media past = repeat_of media (nth g past) ∷ repeats g media past

-- one of the last n of these has text
abbrev pub has_text_in : ℕ → List Sent → Bool
has_text_in n past = list_any (λ e. has_text e.text) (take n past)

abbrev pub entry_after : ℕ → List Sent → Sent → Entry
entry_after g past e = record { source = e.source; media = e.media; text = e.text; generations = g; reach = oldest_offset (repeats g e.media (sent_of e.source past)) }

-- oldest first
abbrev pub entries_sent : ℕ → List Sent → List Entry
entries_sent g [] = []
entries_sent g (e ∷ past) = entries_sent g past ++ entry_after g past e ∷ []

-- the history of what was sent, newest first
abbrev pub sent_history : Stream → List Sent → History
sent_history c past = record { ssrc = c.ssrc; first = c.first; base = c.base; entries = entries_sent c.generations past }

-- the packet of e, sent after these
abbrev pub packet_after : Stream → List Sent → Sent → Packet
packet_after c past e = record {
  marker_bit = not (has_text_in (max 1 c.generations) (sent_of e.source past));
  seq = (c.first + length past) % 65536;
  timestamp = (c.base + e.media) % 2 ^ 32;
  ssrc = c.ssrc;
  source = e.source;
  older = repeats c.generations e.media (sent_of e.source past);
  primary = e.text;
}

-- e may be sent after these: it is later than each, and near to each text that it repeats
pub record MaySend (c : Stream) (past : List Sent) (e : Sent) : Type 0 where
  pub later : (x : Sent) → In x past → (x.media < e.media) × (e.media < x.media + 2 ^ 31)
  pub near : (x : Sent) → In x (take c.generations (sent_of e.source past)) → has_text x.text ≡ true
      → e.media ≤ x.media + MOST_OFFSET
  pub text : (length e.text ≤ MOST_TEXT_OCTETS) × IsUtf8 e.text

-- each of these could be sent after those before it
abbrev pub Sendable : Stream → List Sent → Type 0
Sendable c [] = Unit {0}
Sendable c (e ∷ past) = MaySend c past e × Sendable c past
