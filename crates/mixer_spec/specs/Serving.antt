-- What the laws say of turns: who is served, how long a leg waits, and which packets a turn sends.
use Rattle.std.specs.Prelude.{◌≡◌, ℕ, suc, ◌+◌, ◌<◌, ◌≤◌, ◌==◌, ◌⊎◌, true, Some, List, [], ◌∷◌, ◌++◌, filter, map}
use Rattle.wire_spec.specs.Packets.{Packet, Arrival}
use Rattle.stream_spec.specs.Ready.{Chunk}
use Rattle.stream_spec.specs.Own.{Sent, has_text_in}
use Rattle.mixer_spec.specs.Setups.{Setup, IsSetup, IsAnother, gap, other_places, stream}
use Rattle.mixer_spec.specs.Table.{TurnEntry, Post, Table, batch, is_due, last_media, new_packet, next_media, rank, sent_from, turned}
use Rattle.mixer_spec.specs.Core.{Event, Turn, after, turns_in}
use Rattle.mixer_spec.specs.Laws.{AllTexts, IsNew, IsWaiting, Tight, count_of, packets_at}

-- ---- who is served
-- what was sent of the leg i at the terminal j
abbrev pub sent_at : Setup → Table → ℕ → ℕ → List Sent
sent_at s w j i = sent_from (s.ssrc i) (w.terminals j)

-- A leg whose text is still to be repeated at an aware terminal waits the less the nearer it is to its turn.
abbrev pub WaitsAreShort : Type 0
WaitsAreShort =
    (s : Setup) (chunks : ℕ → List Chunk) (past : List Event) (j i t m : ℕ)
    → IsSetup s → AllTexts chunks
    → s.aware j ≡ true
    → j < s.legs → i < s.legs → IsAnother i j
    → let w = (after s chunks past).table in
    w.media ≡ Some t
    → has_text_in (s.generations j) (sent_at s w j i) ≡ true
    → last_media (sent_at s w j i) ≡ Some m
    → IsWaiting s w j i t m

-- Of two successive packets of a source the later one comes at most `gap` behind the earlier one, where that or one of those
-- before it is still to be repeated.
abbrev pub PacketsAreNear : Type 0
PacketsAreNear =
    (s : Setup) (chunks : ℕ → List Chunk) (past : List Event) (j x : ℕ)
    → IsSetup s → AllTexts chunks
    → j < s.legs
    → Tight (s.generations j) (gap s) (sent_from x ((after s chunks past).table.terminals j))

-- the leg i is due at the terminal j in a turn at the moment `now`
abbrev pub IsDueAt : Setup → Table → ℕ → ℕ → ℕ → Type 0
IsDueAt s w j i now = is_due s j (next_media s.step w.media now) (w.terminals j) i ≡ true

-- from the one table to the other a packet of the leg i was sent to the terminal j
abbrev pub IsServed : Table → Table → ℕ → ℕ → Type 0
IsServed w v j i = count_of i (w.terminals j).past < count_of i (v.terminals j).past

-- how many places are served before p at the terminal j, whose own is q
abbrev pub places_before : Setup → Table → ℕ → ℕ → ℕ → ℕ
places_before s w j q p = rank s (w.terminals j).past q p

-- this holds wherever a leg is due at an aware terminal in a turn: the tables before the turn and behind it, what comes after the
-- turn, the turn's moment, the terminal and the leg, and the places of both
abbrev pub WhereDue : ((s : Setup) (w v : Table) (es : List Event) (now j i q p : ℕ) → Type 0) → Type 0
WhereDue P =
    (s : Setup) (chunks : ℕ → List Chunk) (before es : List Event) (j i q p now : ℕ)
    → IsSetup s → AllTexts chunks
    → s.aware j ≡ true
    → j < s.legs → i < s.legs
    → let w = (after s chunks before).table in
    let v = (after s chunks (es ++ Turn now ∷ before)).table in
    w.seats.place j ≡ Some q
    → w.seats.place i ≡ Some p
    → IsDueAt s w j i now
    → P s w v es now j i q p

-- A leg that is due in a turn is served within as many turns as there are places but the terminal's own, that turn counted in.
abbrev pub IsServedSoon : Type 0
IsServedSoon = WhereDue (λ s w v es now j i q p. other_places s ≤ turns_in (es ++ Turn now ∷ []) → IsServed w v j i)

-- Each turn that serves another leg brings it nearer to its own.
abbrev pub ComesNearer : Type 0
ComesNearer = WhereDue (λ s w v es now j i q p. IsServed w v j i ⊎ (suc (turns_in es) + places_before s v j q p ≤ places_before s w j q p))

-- ---- what a turn sends
-- A turn sends at most one packet to a terminal, at its moment and its media time.
abbrev pub TurnSendsOne : Type 0
TurnSendsOne =
    (s : Setup) (now j : ℕ) (table : Table)
    → let before = (table.terminals j).past in
    let after = ((turned s now table).terminals j).past in
    (after ≡ before) ⊎ ((e : TurnEntry) × (after ≡ e ∷ before) × IsNew now (next_media s.step table.media now) e)

-- the packet that a turn adds at the terminal j, if there is one
abbrev pub packet_of_turn : Setup → ℕ → ℕ → Table → List Packet
packet_of_turn s now j table = new_packet (stream s j) (table.terminals j).past ((turned s now table).terminals j).past

-- of these posts those to the terminal j
abbrev pub posts_to : ℕ → List Post → List Post
posts_to j posts = filter (λ p. p.terminal == j) posts

-- these packets, sent to the terminal j
abbrev pub as_posts : ℕ → List Packet → List Post
as_posts j ps = map (λ p. record { terminal = j; packet = p }) ps

-- these packets, each at the moment `now`
abbrev pub as_arrivals : ℕ → List Packet → List Arrival
as_arrivals now ps = map (λ p. record { time = now; packet = p }) ps

-- The posts of a turn to a terminal are the packet that it adds there.
abbrev pub PostsAreAdded : Type 0
PostsAreAdded =
    (s : Setup) (now j : ℕ) (table : Table)
    → j < s.legs
    → posts_to j (batch s now table) ≡ as_posts j (packet_of_turn s now j table)

-- What was sent after a turn is what was sent before it, and the packet that it adds.
abbrev pub PacketsAreAdded : Type 0
PacketsAreAdded =
    (s : Setup) (now j : ℕ) (table : Table)
    → packets_at s (turned s now table) j ≡ packets_at s table j ++ as_arrivals now (packet_of_turn s now j table)
