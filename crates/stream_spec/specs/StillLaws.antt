-- What the laws say of packets without keep-alives: of a lawful history they are packets of a lawful history, with the same
-- times and numbers, of which the same are used.
use Rattle.std.specs.Prelude.{◌≡◌, ℕ, true, List, filter, map}
use Rattle.wire_spec.specs.Packets.{Arrival, AreTextArrivals, has_text}
use Rattle.stream_spec.specs.Numbering.{Falling, numbered, used}
use Rattle.stream_spec.specs.History.{History, Lawful, Come, placed, places}
use Rattle.stream_spec.specs.Ready.{chunks}
use Rattle.stream_spec.specs.Still.{is_lively_chunk, still, still_history, still_numbered, still_placed, still_text}

-- A text of which something is left is as it was.
abbrev pub TextIsStill : Type 0
TextIsStill = (text : List ℕ) → has_text (still_text text) ≡ true → still_text text ≡ text

abbrev pub StillIsLawful : Type 0
StillIsLawful = (h : History) → Lawful h → Lawful (still_history h)

-- What comes of a history comes, without keep-alives, of the history without them.
abbrev pub StillComes : Type 0
StillComes = (h : History) (past : List Arrival) → Come h past → Come (still_history h) (still past)

-- Entries stay at their places.
abbrev pub StillIsPlaced : Type 0
StillIsPlaced = (h : History) → placed (still_history h) ≡ map still_placed (placed h)

-- Arrivals keep their times and numbers,
abbrev pub StillIsNumbered : Type 0
StillIsNumbered = (past : List Arrival) → numbered (still past) ≡ map still_numbered (numbered past)

-- the same packets are used,
abbrev pub StillIsUsed : Type 0
StillIsUsed = (wait : ℕ) (past : List Arrival)
    → used wait (numbered (still past)) ≡ map still_numbered (used wait (numbered past))

-- and the same places came.
abbrev pub StillPlacesCame : Type 0
StillPlacesCame = (wait : ℕ) (h : History) (past : List Arrival)
    → places wait (still_history h) (still past) ≡ map still_placed (places wait h past)

-- Times that never fall do not fall so, and texts stay texts.
abbrev pub StillNeverFalls : Type 0
StillNeverFalls = (past : List Arrival) → Falling (numbered past) → Falling (numbered (still past))

abbrev pub StillIsText : Type 0
StillIsText = (past : List Arrival) → AreTextArrivals past → AreTextArrivals (still past)

-- What is heard so are the chunks that are heard and are no keep-alives, each at its moment.
abbrev pub StillIsFiltered : Type 0
StillIsFiltered = (wait place : ℕ) (past : List Arrival) (s : ℕ)
    → chunks wait place (still past) s ≡ filter is_lively_chunk (chunks wait place past s)
