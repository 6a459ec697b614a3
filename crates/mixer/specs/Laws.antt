-- What holds of the mixer after all calls that are allowed, law by law.
use Rattle.std.specs.Prelude.{◌≡◌, ◌<◌, ◌≤◌, ◌+◌, ◌*◌, ◌^◌, ◌⊎◌, ℕ, suc, true, false, Some, List, [], ◌∷◌, ◌++◌, filter}
use Rattle.wire_spec.specs.Packets.{has_text}
use Rattle.stream_spec.specs.Carries.{CarriesFront}
use Rattle.stream_spec.specs.History.{Come, History, Lawful, Placed}
use Rattle.stream_spec.specs.Own.{NearEach, Own, come_from, has_text_in}
use Rattle.mixer_spec.specs.Chunks.{texts_of}
use Rattle.mixer_spec.specs.Setups.{IsSetup, Setup, gap, other_places, stream}
use Rattle.mixer_spec.specs.Table.{Call, Table, Terminal, Turn, after_calls, history_to, is_due, is_idle, is_seated, last_media, next_media, packets, rank, sent_from, shared, turn_at, turn_aware, turn_unaware}
use Rattle.mixer_spec.specs.Calls.{AreEvents, took, turns_made}
use Rattle.mixer_spec.specs.Laws.{AreShort, AreTexts, IsComposed, IsWaiting, Part, Tight, carried, chunks_given, count_of, texts_given, texts_sent}
use Rattle.mixer_places.specs.Words.{NoneWaits}
use Rattle.unaware_view.specs.Standing.{least_ask}
use Rattle.terminal_scheduler.specs.Turns.{SendsNext}
use Rattle.mixer.specs.Allowed.{AreAllowed, MayTurn}
use Rattle.mixer.specs.Words.{accepted, given_to, put_out}

-- ---- events of the core
-- where what was taken are all chunks of the legs, the calls are events of the core
abbrev pub AllowedAreEvents : Type 0
AllowedAreEvents = (s : Setup) (calls : List Call) → AreAllowed s calls → AreEvents s (λ i. took s i calls) calls

-- what was taken are texts
abbrev pub TakenAreTexts : Type 0
TakenAreTexts = (s : Setup) (calls : List Call) (i : ℕ) → AreAllowed s calls → AreTexts (took s i calls)

-- each of them fits into a packet
abbrev pub TakenAreShort : Type 0
TakenAreShort = (s : Setup) (calls : List Call) (i : ℕ) → AreAllowed s calls → AreShort (took s i calls)

-- ---- what a turn sends
-- what the terminal j is sent in coming to d may be sent
abbrev pub MaySend : Setup → Table → ℕ → Terminal → Type 0
MaySend s w j d = SendsNext (stream s j) (w.terminals j).past d.past

-- at any terminal
abbrev pub TurnsMaySend : Type 0
TurnsMaySend = (s : Setup) (calls : List Call) (now j : ℕ) → MayTurn s calls
    → let w = after_calls s calls in
    MaySend s w j (turn_at s w.seats j now (next_media s.step w.media now) (w.terminals j))

-- at one that is aware, whose leg holds a place
abbrev pub AwareMaySend : Type 0
AwareMaySend = (s : Setup) (calls : List Call) (now j : ℕ) → MayTurn s calls
    → let w = after_calls s calls in
    is_seated w.seats j ≡ true → s.aware j ≡ true
    → MaySend s w j (turn_aware s w.seats j now (next_media s.step w.media now) (w.terminals j))

-- at one that is not, whose leg holds a place
abbrev pub UnawareMaySend : Type 0
UnawareMaySend = (s : Setup) (calls : List Call) (now j : ℕ) → MayTurn s calls
    → let w = after_calls s calls in
    is_seated w.seats j ≡ true → s.aware j ≡ false
    → MaySend s w j (turn_unaware s j now (next_media s.step w.media now) (w.terminals j))

-- ---- what waits
-- what waits are texts
abbrev pub WaitingAreTexts : Type 0
WaitingAreTexts = (s : Setup) (calls : List Call) (j i : ℕ) → IsSetup s → AreAllowed s calls
    → AreTexts (((after_calls s calls).terminals j).waits i)

-- each of them fits into a packet
abbrev pub WaitingAreShort : Type 0
WaitingAreShort = (s : Setup) (calls : List Call) (j i : ℕ) → AreAllowed s calls
    → AreShort (((after_calls s calls).terminals j).waits i)

-- nothing of its own leg waits at a terminal
abbrev pub OwnNeverWaits : Type 0
OwnNeverWaits = (s : Setup) (calls : List Call) (j : ℕ) → ((after_calls s calls).terminals j).waits j ≡ []

-- nothing waits where the leg never came
abbrev pub NoneWaitsBefore : Type 0
NoneWaitsBefore = (s : Setup) (calls : List Call) (j : ℕ) → AreAllowed s calls
    → (after_calls s calls).seats.came j ≡ false → NoneWaits s j (after_calls s calls)

-- a leg that listens came
abbrev pub ListenersCame : Type 0
ListenersCame = (s : Setup) (calls : List Call) (j : ℕ) → AreAllowed s calls
    → (after_calls s calls).seats.listens j ≡ true → (after_calls s calls).seats.came j ≡ true

-- a turn comes at a later media time than each ask of a composer before it
abbrev pub AsksComeBefore : Type 0
AsksComeBefore = (s : Setup) (calls : List Call) (now j : ℕ) → IsSetup s
    → let w = after_calls s calls in
    least_ask (w.terminals j).asks ≤ next_media s.step w.media now

-- ---- chunks go once
-- the chunks that were taken are those for which there was room
abbrev pub TakenHadRoom : Type 0
TakenHadRoom = (s : Setup) (calls : List Call) (i : ℕ) → took s i calls ≡ accepted s i calls

-- what a terminal was given of a leg was sent there or waits still, in order
abbrev pub GivenGoOrWait : Type 0
GivenGoOrWait = (s : Setup) (calls : List Call) (j i : ℕ) → AreAllowed s calls → (i ≡ j → ⊥)
    → let d = (after_calls s calls).terminals j in
    carried i d.past ++ d.waits i ≡ given_to s j i calls

-- all was sent where the mixer is idle
abbrev pub GivenWentWhereIdle : Type 0
GivenWentWhereIdle = (s : Setup) (calls : List Call) (j i : ℕ) → AreAllowed s calls
    → j < s.legs → i < s.legs → (i ≡ j → ⊥) → is_idle s (after_calls s calls) ≡ true
    → carried i ((after_calls s calls).terminals j).past ≡ given_to s j i calls

-- the packets to an aware terminal carry a front of these texts, under the leg's SSRC, and the rest waits
abbrev pub AwareCarryFront : Type 0
AwareCarryFront = (s : Setup) (calls : List Call) (j i : ℕ) → IsSetup s → AreAllowed s calls
    → s.aware j ≡ true → j < s.legs → i < s.legs → (i ≡ j → ⊥)
    → let d = (after_calls s calls).terminals j in
    CarriesFront (history_to s j d.past) (s.ssrc i) (texts_of (given_to s j i calls)) (texts_of (d.waits i))

-- what a terminal was given is a consecutive part of what was taken
abbrev pub GivenArePart : Type 0
GivenArePart = (s : Setup) (calls : List Call) (j i : ℕ) → AreAllowed s calls → (i ≡ j → ⊥)
    → let w = after_calls s calls in
    Part j (w.seats.came j) (w.seats.listens j) (w.taken i)

-- what was sent are the packets of the batches of all turns, one batch behind the other
abbrev pub BatchesAreSent : Type 0
BatchesAreSent = (s : Setup) (calls : List Call) (j : ℕ) → j < s.legs
    → packets (stream s j) ((after_calls s calls).terminals j).past ≡ put_out s j calls

-- ---- packets come near, and legs in turn
-- where text is still to be repeated behind a packet of a source, the next comes at most `gap` later
abbrev pub PacketsComeNear : Type 0
PacketsComeNear = (s : Setup) (calls : List Call) (j x : ℕ) → IsSetup s → AreAllowed s calls → j < s.legs
    → Tight (s.generations j) (gap s) (sent_from x ((after_calls s calls).terminals j))

-- a leg with such text holds a place, and waits the less the nearer it is to its turn
abbrev pub RepeatersWait : Type 0
RepeatersWait = (s : Setup) (calls : List Call) (j i t m : ℕ) → IsSetup s → AreAllowed s calls
    → s.aware j ≡ true → j < s.legs → i < s.legs → (i ≡ j → ⊥)
    → let w = after_calls s calls in
    w.media ≡ Some t → has_text_in (s.generations j) (sent_from (s.ssrc i) (w.terminals j)) ≡ true
    → last_media (sent_from (s.ssrc i) (w.terminals j)) ≡ Some m
    → IsWaiting s w j i t m

-- Where the leg i, at the place p, is due at the aware terminal of the leg j, at the place q, in a turn at the moment `now`
-- behind the calls `before`: then this is so, whatever is called behind it.
abbrev pub WhereDue : (Setup → List Call → List Call → (j i q p now : ℕ) → Type 0) → Type 0
WhereDue P = (s : Setup) (before es : List Call) (j i q p now : ℕ) → IsSetup s → AreAllowed s (es ++ Turn now ∷ before)
    → s.aware j ≡ true → j < s.legs → i < s.legs
    → let w = after_calls s before in
    w.seats.place j ≡ Some q → w.seats.place i ≡ Some p
    → is_due s j (next_media s.step w.media now) (w.terminals j) i ≡ true
    → P s before es j i q p now

-- the leg was served again within as many turns as there are places but the terminal's own, that turn counted in
abbrev pub DueAreServed : Type 0
DueAreServed = WhereDue (λ s before es j i q p now.
    let w = after_calls s before in
    let v = after_calls s (es ++ Turn now ∷ before) in
    other_places s ≤ turns_made (es ++ Turn now ∷ [])
    → count_of i (w.terminals j).past < count_of i (v.terminals j).past)

-- it was served again, or each turn brought it nearer
abbrev pub DueComeNearer : Type 0
DueComeNearer = WhereDue (λ s before es j i q p now.
    let w = after_calls s before in
    let v = after_calls s (es ++ Turn now ∷ before) in
    (count_of i (w.terminals j).past < count_of i (v.terminals j).past)
    ⊎ (suc (turns_made es) + rank s (v.terminals j).past q p ≤ rank s (w.terminals j).past q p))

-- ---- what was sent
-- all that was sent to the terminal j
abbrev pub sent_to : Setup → ℕ → List Call → History
sent_to s j calls = history_to s j ((after_calls s calls).terminals j).past

-- it is a lawful history, where media time did not pass half the circle of timestamps
abbrev pub SentIsLawful : Type 0
SentIsLawful = (s : Setup) (calls : List Call) (j : ℕ) → IsSetup s → AreAllowed s calls
    → s.step * turns_made calls < 2 ^ 31 → j < s.legs → Lawful (sent_to s j calls)

-- of the mixer's own packets
abbrev pub SentIsOwn : Type 0
SentIsOwn = (s : Setup) (calls : List Call) (j : ℕ) → AreAllowed s calls → Own (s.generations j) (sent_to s j calls)

-- whatever of these packets comes, in whatever order, comes from that history
abbrev pub SentMayCome : Type 0
SentMayCome = (s : Setup) (calls : List Call) (j : ℕ) → IsSetup s → AreAllowed s calls
    → s.step * turns_made calls < 2 ^ 31 → j < s.legs
    → let h = sent_to s j calls in
    (xs : List (ℕ × Placed)) → NearEach h xs → Come h (come_from h xs)

-- ---- a terminal that is not aware
-- its composer was asked as the definition says, of the chunks that it shares
abbrev pub AsksAreComposed : Type 0
AsksAreComposed = (s : Setup) (calls : List Call) (j : ℕ) → AreAllowed s calls → s.aware j ≡ false
    → let w = after_calls s calls in
    IsComposed s (λ i. shared j (w.taken i)) j (w.terminals j).asks

-- the texts that it was sent are those that the composer gave
abbrev pub SentAreComposed : Type 0
SentAreComposed = (s : Setup) (calls : List Call) (j : ℕ) → AreAllowed s calls → s.aware j ≡ false
    → let d = (after_calls s calls).terminals j in
    filter has_text (texts_sent d.past) ≡ filter has_text (texts_given d.asks)

-- the composer gave what was sent of each leg
abbrev pub ComposedAreSent : Type 0
ComposedAreSent = (s : Setup) (calls : List Call) (j i : ℕ) → AreAllowed s calls → s.aware j ≡ false
    → let d = (after_calls s calls).terminals j in
    carried i d.past ≡ chunks_given i d.asks
