-- What the laws say of plain mixing: that it ends, what holds at its end, and that it is a run of the core.
use Rattle.std.specs.Prelude.{◌≡◌, ℕ, ◌<◌, ◌≤◌, true, List, ◌++◌, length}
use Rattle.stream_spec.specs.Ready.{Chunk}
use Rattle.stream_spec.specs.History.{Lawful}
use Rattle.stream_spec.specs.Carries.{Carries}
use Rattle.stream_spec.specs.Own.{Closed}
use Rattle.mixer_spec.specs.Setups.{Setup, IsSetup, FitsHalfCircle, IsAnother}
use Rattle.mixer_spec.specs.Table.{Table, chunks_taken, shared}
use Rattle.mixer_spec.specs.Legs.{left}
use Rattle.mixer_spec.specs.Core.{Core, after_from}
use Rattle.mixer_spec.specs.Plain.{IsOverWith, left_over, table_after, taken}
use Rattle.mixer_spec.specs.Laws.{AllTexts, HaveRoom, IsRun, carried, history_at, moves}
use Rattle.mixer_spec.specs.Bridged.{shared_texts}
use Rattle.mixer_spec.specs.Keeping.{GivesPart}

-- ---- at the end
-- All chunks of each leg were taken.
abbrev pub AllIsTaken : Type 0
AllIsTaken =
    (s : Setup) (chunks : ℕ → List Chunk) (tick turns i : ℕ) (table : Table)
    → i < s.legs
    → IsOverWith s tick turns chunks table
    → chunks_taken (table.taken i) ≡ chunks i

-- What each other terminal was given of a leg is a consecutive part of that.
abbrev pub PartIsGiven : Type 0
PartIsGiven =
    (s : Setup) (chunks : ℕ → List Chunk) (tick turns j i : ℕ) (table : Table)
    → IsAnother i j
    → IsOverWith s tick turns chunks table
    → GivesPart table j i

-- All that a terminal was given of a leg was sent to it.
abbrev pub GivenIsSent : Type 0
GivenIsSent =
    (s : Setup) (chunks : ℕ → List Chunk) (tick turns j i : ℕ) (table : Table)
    → j < s.legs → i < s.legs → IsAnother i j
    → IsOverWith s tick turns chunks table
    → carried i (table.terminals j).past ≡ shared j (table.taken i)

-- At an aware terminal its packets carry the texts of that, in order.
abbrev pub GivenIsCarried : Type 0
GivenIsCarried =
    (s : Setup) (chunks : ℕ → List Chunk) (tick turns j i : ℕ) (table : Table)
    → IsSetup s → AllTexts chunks
    → s.aware j ≡ true
    → j < s.legs → i < s.legs → IsAnother i j
    → IsOverWith s tick turns chunks table
    → Carries (history_at s table j) (s.ssrc i) (shared_texts table j i)

-- The history of each terminal is lawful.
abbrev pub EndIsLawful : Type 0
EndIsLawful =
    (s : Setup) (chunks : ℕ → List Chunk) (tick turns j : ℕ) (table : Table)
    → IsSetup s → AllTexts chunks → FitsHalfCircle s turns
    → j < s.legs
    → IsOverWith s tick turns chunks table
    → Lawful (history_at s table j)

-- Each text was repeated as often as it is to be.
abbrev pub EndIsClosed : Type 0
EndIsClosed =
    (s : Setup) (chunks : ℕ → List Chunk) (tick turns j : ℕ) (table : Table)
    → IsSetup s → AllTexts chunks
    → j < s.legs
    → IsOverWith s tick turns chunks table
    → Closed (s.generations j) (history_at s table j)

-- ---- that it ends
-- Where there are as many places as legs, some number of turns is enough.
abbrev pub TurnsAreEnough : Type 0
TurnsAreEnough =
    (s : Setup) (chunks : ℕ → List Chunk) (tick : ℕ)
    → IsSetup s
    → s.legs ≤ s.places
    → AllTexts chunks → HaveRoom s chunks
    → 0 < tick
    → (n : ℕ) × (table : Table) × IsOverWith s tick n chunks table

-- More turns change nothing.
abbrev pub MoreChangeNothing : Type 0
MoreChangeNothing =
    (s : Setup) (chunks : ℕ → List Chunk) (tick n m : ℕ) (table : Table)
    → n ≤ m
    → IsOverWith s tick n chunks table
    → IsOverWith s tick m chunks table

-- ---- a run of the core
-- the core after n times a Push and a Take of the leg i at the moment t
abbrev pub moved : Setup → Core → ℕ → ℕ → ℕ → Core
moved s w i t n = after_from s w (moves i t n)

-- what is left of the leg i
abbrev pub left_of : Core → ℕ → List Chunk
left_of w i = left (w.legs i)

-- Of as many moves as a leg has chunks, or more, that is left which is left when it offers them in order.
abbrev pub MovesLeave : Type 0
MovesLeave =
    (s : Setup) (w : Core) (i t n : ℕ)
    → length (left_of w i) ≤ n
    → left_of (moved s w i t n) i ≡ left_over s i t w.table (left_of w i)

-- What is taken then is what is taken of these offers.
abbrev pub MovesTake : Type 0
MovesTake =
    (s : Setup) (w : Core) (i t n : ℕ)
    → length (left_of w i) ≤ n
    → chunks_taken ((moved s w i t n).table.taken i) ≡ chunks_taken (w.table.taken i) ++ taken s i t w.table (left_of w i)

-- The table then is the one after these offers.
abbrev pub MovesLead : Type 0
MovesLead =
    (s : Setup) (w : Core) (i t n : ℕ)
    → length (left_of w i) ≤ n
    → (moved s w i t n).table ≡ table_after s i t w.table (left_of w i)

-- Each other leg stays as it was.
abbrev pub OthersStay : Type 0
OthersStay =
    (s : Setup) (w : Core) (i t n x : ℕ)
    → length (left_of w i) ≤ n
    → IsAnother x i
    → (moved s w i t n).legs x ≡ w.legs x

-- So plain mixing is a run of the core.
abbrev pub PlainIsRun : Type 0
PlainIsRun =
    (s : Setup) (chunks : ℕ → List Chunk) (tick turns : ℕ) (table : Table)
    → IsOverWith s tick turns chunks table
    → IsRun s chunks turns table
