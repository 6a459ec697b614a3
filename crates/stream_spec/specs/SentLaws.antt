-- What the laws say of what a sender makes: a lawful history of its own packets, which tell it.
use Rattle.std.specs.Prelude.{◌≡◌, ℕ, ◌<◌, ◌≤◌, ◌^◌, false, List, ◌∷◌, length, map}
use Rattle.stream_spec.specs.Lists.{In}
use Rattle.stream_spec.specs.History.{History, Placed, Lawful, IsPacket, Come, placed}
use Rattle.stream_spec.specs.Own.{Own, Closed, Stream, Sent, Sendable, NearEach, own_packet, come_from, history_of, sent_history, sent_of, has_text_in, packet_after}

-- ---- what is sent
-- What is sent, each entry where it may be, is a lawful history.
abbrev pub SentIsLawful : Type 0
SentIsLawful =
    (c : Stream) (past : List Sent)
    → c.generations ≤ 3
    → Sendable c past
    → Lawful (sent_history c past)

-- The own packet of the last entry is the one that is sent for it.
abbrev pub LastIsSent : Type 0
LastIsSent =
    (c : Stream) (past : List Sent) (e : Sent) (x : Placed)
    → In x (placed (sent_history c (e ∷ past)))
    → x.place ≡ length past
    → own_packet (sent_history c (e ∷ past)) x ≡ packet_after c past e

-- Where nothing is left to repeat, each text was repeated as often as it is to be.
abbrev pub QuietIsClosed : Type 0
QuietIsClosed =
    (c : Stream) (past : List Sent)
    → ((s : ℕ) → has_text_in c.generations (sent_of s past) ≡ false)
    → Closed c.generations (sent_history c past)

-- ---- own packets
-- The own packet of an entry is a packet of it.
abbrev pub OwnIsPacket : Type 0
OwnIsPacket =
    (g : ℕ) (h : History) → Lawful h → Own g h
    → (x : Placed) → In x (placed h)
    → IsPacket h x (own_packet h x)

-- whatever comes of the own packets of the history h, in whatever order, comes from h
abbrev pub AnyComes : History → Type 0
AnyComes h = (xs : List (ℕ × Placed)) → NearEach h xs → Come h (come_from h xs)

abbrev pub OwnPacketsCome : Type 0
OwnPacketsCome =
    (g : ℕ) (h : History) → Lawful h → Own g h
    → AnyComes h

-- The own packets of a history, together and in order, tell it.
abbrev pub PacketsTellHistory : Type 0
PacketsTellHistory =
    (g : ℕ) (h : History) → Lawful h → Own g h
    → 0 < length h.entries
    → h.first < 65536
    → ((x : Placed) → In x (placed h) → x.media < 2 ^ 32)
    → history_of (map (own_packet h) (placed h)) h.base ≡ h
