-- What the laws say of numbers, of the used packets and of what is settled.
use Rattle.std.specs.Prelude.{◌≡◌, ℕ, ◌%◌, ◌<◌, ◌≤◌, ◌↔◌, ◌⊎◌, true, List, [], ◌++◌}
use Rattle.rtt_base.specs.declared.text_packets.PayloadTypes.{PayloadTypes}
use Rattle.wire_spec.specs.Dump
use Rattle.wire_spec.specs.Packets.{Arrival}
use Rattle.stream_spec.specs.Lists.{In}
use Rattle.stream_spec.specs.Numbering.{Numbered, Falling, numbered, used, first_number, has_number, is_given_up, nearest, distance}
use Rattle.stream_spec.specs.Ready.{ReadyRises, chunks, moments}
use Rattle.stream_spec.specs.ChunksBy.{used_ready}
use Rattle.stream_spec.specs.Fronts.{IsFront, AreFrom, packets_ready_by, chunks_ready_by}
use Rattle.stream_spec.specs.InTime.{CameInTime, IsOverdue, IsOvertaken}

-- ---- numbers
-- No number that is congruent to seq lies nearer to top.
abbrev pub NoneIsNearer : Type 0
NoneIsNearer =
    (top seq n : ℕ)
    → 65536 ≤ top → seq < 65536
    → n % 65536 ≡ seq
    → distance (nearest top seq) top ≤ distance n top

-- Each lower one lies farther.
abbrev pub LowerIsFarther : Type 0
LowerIsFarther =
    (top seq n : ℕ)
    → 65536 ≤ top → seq < 65536
    → n % 65536 ≡ seq
    → n < nearest top seq
    → distance (nearest top seq) top < distance n top

-- The used packets are exactly those that came in time.
abbrev pub UsedCameInTime : Type 0
UsedCameInTime =
    (wait : ℕ) (past : List Numbered) (x : Numbered)
    → In x (used wait past) ↔ CameInTime wait past x

-- A number is given up by a moment exactly where one of two causes has come by then.
abbrev pub GivenUpHasCause : Type 0
GivenUpHasCause =
    (wait t n : ℕ) (past : List Numbered)
    → is_given_up wait past t n ≡ true ↔ (IsOverdue wait past t n ⊎ IsOvertaken past n)

-- all of these came by the moment t
abbrev pub CameBy : ℕ → List Numbered → Type 0
CameBy t past = (u : Numbered) → In u past → u.time ≤ t

-- one of the moments that end n is not later than t
abbrev pub EndsBy : ℕ → List Numbered → ℕ → ℕ → Type 0
EndsBy wait past t n = (m : ℕ) × In m (moments wait past n) × (m ≤ t)

-- Where times never fall, a number from the first on ends by a moment exactly where it came or is given up by then.
abbrev pub EndsWhereSettled : Type 0
EndsWhereSettled =
    (wait t n : ℕ) (past : List Numbered)
    → Falling past → CameBy t past
    → first_number n past ≤ n
    → EndsBy wait past t n ↔ ((has_number past n ≡ true) ⊎ (is_given_up wait past t n ≡ true))

-- ---- a recording
-- The times of a recording's arrivals never fall.
abbrev pub RecordingsNeverFall : Type 0
RecordingsNeverFall =
    (items : List Dump.Item) (ssrc : ℕ) (payload_types : PayloadTypes)
    → Falling (numbered (Dump.arrivals_after ssrc payload_types [] items))

-- The same of its octets.
abbrev pub OctetsNeverFall : Type 0
OctetsNeverFall =
    (octets : List ℕ) (ssrc : ℕ) (payload_types : PayloadTypes)
    → Falling (numbered (Dump.arrivals octets ssrc payload_types))

-- So the moments at which chunks are ready never fall.
abbrev pub OctetsAreReadyInOrder : Type 0
OctetsAreReadyInOrder =
    (octets : List ℕ) (ssrc : ℕ) (payload_types : PayloadTypes) (wait place s : ℕ)
    → ReadyRises (chunks wait place (Dump.arrivals octets ssrc payload_types) s)

-- ---- what is settled
-- The used packets that are ready by t stay the first of all, whatever comes at t or later.
abbrev pub SettledPacketsStay : Type 0
SettledPacketsStay =
    (wait t : ℕ) (later earlier : List Arrival)
    → Falling (numbered earlier) → AreFrom t later
    → IsFront (packets_ready_by wait t earlier) (used_ready wait (later ++ earlier))

-- So do the chunks that are ready by t.
abbrev pub SettledChunksStay : Type 0
SettledChunksStay =
    (wait place s t : ℕ) (later earlier : List Arrival)
    → Falling (numbered earlier) → AreFrom t later
    → IsFront (chunks_ready_by wait place t earlier s) (chunks wait place (later ++ earlier) s)
