-- What the laws say of chunks and places, after every list of events: what was taken, was sent and waits, and who holds what.
use Rattle.std.specs.Prelude.{◌≡◌, ℕ, ◌<◌, ◌≤◌, true, None, Some, List, ◌∷◌, ◌++◌, length}
use Rattle.stream_spec.specs.Ready.{Chunk}
use Rattle.stream_spec.specs.Carries.{CarriesFront}
use Rattle.mixer_spec.specs.Setups.{Setup, IsSetup, IsAnother}
use Rattle.mixer_spec.specs.Table.{Seats, Table, Taken, shared, span_of, count_given, leg_in, free_place}
use Rattle.mixer_spec.specs.Core.{Event, after}
use Rattle.mixer_spec.specs.Laws.{AllTexts, Part, all_of, carried, history_at}
use Rattle.mixer_spec.specs.Bridged.{shared_texts, waiting_texts}

-- ---- chunks
-- A leg's chunks stay in order: taken, in the hand, in the queue, still to push.
abbrev pub StayInOrder : Type 0
StayInOrder =
    (s : Setup) (chunks : ℕ → List Chunk) (past : List Event) (i : ℕ)
    → all_of (after s chunks past) i ≡ chunks i

-- at the terminal j what was sent of the leg i and what waits there is what it was given of it
abbrev pub KeepsGiven : Table → ℕ → ℕ → Type 0
KeepsGiven w j i = carried i (w.terminals j).past ++ (w.terminals j).waits i ≡ shared j (w.taken i)

abbrev pub GivenIsKept : Type 0
GivenIsKept =
    (s : Setup) (chunks : ℕ → List Chunk) (past : List Event) (j i : ℕ)
    → IsAnother i j
    → KeepsGiven (after s chunks past).table j i

-- what the terminal j was given of the leg i is a consecutive part of what was taken, from its coming to the end of its
-- listening
abbrev pub GivesPart : Table → ℕ → ℕ → Type 0
GivesPart w j i = Part j (w.seats.came j) (w.seats.listens j) (w.taken i)

abbrev pub GivenIsPart : Type 0
GivenIsPart =
    (s : Setup) (chunks : ℕ → List Chunk) (past : List Event) (j i : ℕ)
    → IsAnother i j
    → GivesPart (after s chunks past).table j i

-- the packets to the terminal j carry a front of the texts that it was given of the leg i, and the rest waits there
abbrev pub CarriesGiven : Setup → Table → ℕ → ℕ → Type 0
CarriesGiven s w j i = CarriesFront (history_at s w j) (s.ssrc i) (shared_texts w j i) (waiting_texts w j i)

abbrev pub FrontIsCarried : Type 0
FrontIsCarried =
    (s : Setup) (chunks : ℕ → List Chunk) (past : List Event) (j i : ℕ)
    → IsSetup s → AllTexts chunks
    → s.aware j ≡ true
    → j < s.legs → i < s.legs → IsAnother i j
    → CarriesGiven s (after s chunks past).table j i

-- ---- spans
-- the span of the leg i: what was taken of it from the oldest chunk that still waits at some terminal on
abbrev pub span_at : Setup → Table → ℕ → List Taken
span_at s w i = span_of s i w (w.taken i)

-- The span of a leg is the end of what was taken of it.
abbrev pub SpanIsEnd : Type 0
SpanIsEnd =
    (s : Setup) (chunks : ℕ → List Chunk) (past : List Event) (i : ℕ)
    → let w = (after s chunks past).table in
    (before : List Taken) × (w.taken i ≡ before ++ span_at s w i)

-- All that waits of a leg at a terminal lies in its span, at the end.
abbrev pub SpanHoldsWaits : Type 0
SpanHoldsWaits =
    (s : Setup) (chunks : ℕ → List Chunk) (past : List Event) (j i : ℕ)
    → j < s.legs → IsAnother i j
    → let w = (after s chunks past).table in
    (front : List Chunk) × (shared j (span_at s w i) ≡ front ++ (w.terminals j).waits i)

-- The oldest chunk of a span still waits at some terminal.
abbrev pub OldestWaits : Type 0
OldestWaits =
    (s : Setup) (chunks : ℕ → List Chunk) (past : List Event) (i : ℕ) (x : Taken) (xs : List Taken)
    → let w = (after s chunks past).table in
    span_at s w i ≡ x ∷ xs
    → (j : ℕ) × (j < s.legs) × (x.given j ≡ true) × (count_given j (x ∷ xs) ≤ length ((w.terminals j).waits i))

-- ---- places
-- No two legs hold one place, and a place is one of the mixer's, held by one of the legs.
abbrev pub PlacesDiffer : Type 0
PlacesDiffer =
    (s : Setup) (chunks : ℕ → List Chunk) (past : List Event) (a b p : ℕ)
    → let seats = (after s chunks past).table.seats in
    seats.place a ≡ Some p
    → seats.place b ≡ Some p
    → (a ≡ b) × (p < s.places) × (a < s.legs)

-- some leg holds the place p
abbrev pub IsHeld : Setup → Seats → ℕ → Type 0
IsHeld s seats p = (a : ℕ) × (leg_in seats s.legs p ≡ Some a)

-- A place that is given is one that no leg holds, and each lower one is held.
abbrev pub LowestIsGiven : Type 0
LowestIsGiven =
    (s : Setup) (seats : Seats) (p : ℕ)
    → free_place s seats ≡ Some p
    → (p < s.places) × (leg_in seats s.legs p ≡ None) × ((q : ℕ) → q < p → IsHeld s seats q)

-- Where none is found each place is held.
abbrev pub FullIsHeld : Type 0
FullIsHeld =
    (s : Setup) (seats : Seats)
    → free_place s seats ≡ None
    → (q : ℕ) → q < s.places → IsHeld s seats q
