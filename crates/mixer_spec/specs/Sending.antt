-- What the laws say of the packets to a terminal: their history, and what comes of them.
use Rattle.std.specs.Prelude.{◌≡◌, ℕ, ◌<◌, ◌≤◌, List, map}
use Rattle.stream_spec.specs.Lists.{In}
use Rattle.stream_spec.specs.Ready.{Chunk}
use Rattle.stream_spec.specs.History.{History, Placed, Lawful, octets, placed}
use Rattle.stream_spec.specs.Own.{Own, own_packet}
use Rattle.stream_spec.specs.SentLaws.{AnyComes}
use Rattle.mixer_spec.specs.Setups.{Setup, IsSetup, FitsHalfCircle}
use Rattle.mixer_spec.specs.Table.{TurnEntry, Table, history_to}
use Rattle.mixer_spec.specs.Core.{Event, after, turns_in}
use Rattle.mixer_spec.specs.Plain.{IsOverWith}
use Rattle.mixer_spec.specs.Laws.{AllTexts, history_at}
use Rattle.mixer_spec.specs.Bridged.{ComesByPlan, IsRunning, packets_to}
use Rattle.mixer_spec.specs.Rooms.{beside_texts, room}

-- Of each terminal's history this holds.
abbrev pub HoldsOfHistories : (History → Type 0) → Type 0
HoldsOfHistories P =
    (s : Setup) (chunks : ℕ → List Chunk) (past : List Event) (j : ℕ)
    → IsSetup s → AllTexts chunks → FitsHalfCircle s (turns_in past)
    → j < s.legs
    → P (history_at s (after s chunks past).table j)

-- Each terminal's history is lawful.
abbrev pub HistoriesAreLawful : Type 0
HistoriesAreLawful = HoldsOfHistories Lawful

-- Each terminal's history is of the mixer's own making.
abbrev pub HistoriesAreOwn : Type 0
HistoriesAreOwn =
    (s : Setup) (chunks : ℕ → List Chunk) (past : List Event) (j : ℕ)
    → Own (s.generations j) (history_at s (after s chunks past).table j)

-- The packets that were sent are those of the history.
abbrev pub PacketsAreOwn : Type 0
PacketsAreOwn =
    (s : Setup) (j : ℕ) (past : List TurnEntry)
    → packets_to s j past ≡ map (own_packet (history_to s j past)) (placed (history_to s j past))

-- Whatever comes of these packets, in whatever order, comes from the history.
abbrev pub AnyPacketsCome : Type 0
AnyPacketsCome = HoldsOfHistories AnyComes

-- Whatever a plan loses, delays or sends twice of the packets of plain mixing, what comes is of their history.
abbrev pub PlannedPacketsCome : Type 0
PlannedPacketsCome =
    (s : Setup) (chunks : ℕ → List Chunk) (tick turns j : ℕ) (table : Table)
    → IsSetup s → AllTexts chunks → FitsHalfCircle s turns
    → 20 ≤ tick
    → j < s.legs
    → IsOverWith s tick turns chunks table
    → ComesByPlan s table j (history_at s table j)

-- No packet to a terminal, aware or not, has more octets than `most`, where its texts have no more room than that leaves them.
abbrev pub AnyFits : Type 0
AnyFits =
    (s : Setup) (chunks : ℕ → List Chunk) (past : List Event) (most j : ℕ)
    → IsRunning s chunks past
    → j < s.legs
    → beside_texts (s.generations j) ≤ most
    → s.room j ≤ room most (s.generations j)
    → let h = history_at s (after s chunks past).table j in
    (x : Placed) → In x (placed h) → octets h x ≤ most
