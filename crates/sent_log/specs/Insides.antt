-- What the entries of a log stand for, and what holds of each log.
use Rattle.std.specs.Prelude.{◌≡◌, ◌+◌, ◌<◌, ◌≤◌, ℕ, All, List, [], ◌∷◌, ◌++◌, length, map, reverse, slice_index, slice_index_or, slice_set}
use Rattle.stream_spec.specs.Own.{Sent}
use Rattle.packetizer.specs.OutputSettings.{AreSettings}
use Rattle.packetizer.specs.Speakers.{AreDistinct, text_of}
use Rattle.sent_log.specs.declared.logs.SentLog.TheInside.{Inside}
use Rattle.sent_log.specs.declared.terminals.LoggedPacket.{LoggedPacket}
use Rattle.sent_log.specs.declared.terminals.TerminalLog.{TerminalLog}
use Rattle.sent_log.specs.declared.turns.Turn.{Turn}
use Rattle.sent_log.specs.declared.runs.Run.{Run}
use Rattle.sent_log.specs.Lists.{StandsAt, list_at, octets_at}
use Rattle.sent_log.specs.Runs.{Follows, IsRun}
use Rattle.sent_log.specs.States.{Sending, State, said, sents}

-- ---- what an entry stands for

-- the turn with this number
abbrev pub turn_at : List Turn → ℕ → Turn
turn_at turns n = slice_index_or turns n (record { now = 0; media = 0 })

-- what was sent, at its moment, where the texts of a terminal's sources are in the lists from `first` on
abbrev pub sent_by : List Turn → List (List ℕ) → (first : ℕ) → List ℕ → LoggedPacket → ℕ × Sent
sent_by turns texts first sources e =
    ((turn_at turns e.turn).now, text_of sources e.source (turn_at turns e.turn).media (octets_at (list_at texts (first + e.source)) e.place e.len))

abbrev pub sending_of : List Turn → List (List ℕ) → TerminalLog → Sending
sending_of turns texts t = record {
  settings = t.settings;
  sources = t.sources.items;
  sent = reverse (map (sent_by turns texts t.first t.sources.items) t.entries.items);
}

abbrev pub state_of : Inside → State
state_of l = map (sending_of l.turns.items l.texts.items) l.terminals.items

-- ---- what holds of each log

-- the entry's turn is there, and its text, in the list of its source
pub record IsEntry (turns : List Turn) (texts : List (List ℕ)) (first : ℕ) (sources : List ℕ) (e : LoggedPacket) : Type 0 where
  pub turn : e.turn < length turns
  pub source : e.source < length sources
  pub short : e.len < 1024
  pub within : e.place + e.len ≤ length (list_at texts (first + e.source))

-- all texts that were sent to it of the source with this number
abbrev pub said_of : List Turn → List (List ℕ) → TerminalLog → ℕ → List ℕ
said_of turns texts t source = said (slice_index t.sources.items source) (sents (sending_of turns texts t).sent)

pub record IsTerminal (turns : List Turn) (texts : List (List ℕ)) (t : TerminalLog) : Type 0 where
  pub settings : AreSettings t.settings
  pub distinct : AreDistinct t.sources.items
  pub lists : t.first + length t.sources.items ≤ length texts
  pub entries : All (IsEntry turns texts t.first t.sources.items) t.entries.items
  pub each : length t.runs.items ≡ length t.sources.items
  pub runs : (source : ℕ) (d : Run) → source < length t.sources.items
      → IsRun (list_at texts (t.first + source)) (said_of turns texts t source) (slice_index_or t.runs.items source d)

abbrev pub IsLog : Inside → Type 0
IsLog l = All (IsTerminal l.turns.items l.texts.items) l.terminals.items

-- ---- one entry more

-- all but its entries and runs is as it was
pub record IsSame (old new : TerminalLog) : Type 0 where
  pub settings : new.settings ≡ old.settings
  pub sources : new.sources.items ≡ old.sources.items
  pub first : new.first ≡ old.first

-- so are these
pub record NotesNothing (old new : TerminalLog) : Type 0 where
  pub entries : new.entries.items ≡ old.entries.items
  pub runs : new.runs.items ≡ old.runs.items

-- it has one entry more: of this turn, and of this text of the source, which stands in the source's list
pub record HasNoted (turn source : ℕ) (text : List ℕ) (texts : List (List ℕ)) (old new : TerminalLog) : Type 0 where
  pub place : ℕ
  pub stands : StandsAt (list_at texts (old.first + source)) place text
  pub entries : new.entries.items ≡ old.entries.items ++ record { turn = turn; place = place; len = length text; source = source } ∷ []
  pub run : Run
  pub follows : (d : Run) → Follows (slice_index_or old.runs.items source d) place (length text) run
  pub runs : new.runs.items ≡ slice_set old.runs.items source run
