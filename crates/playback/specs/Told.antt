-- What a call tells of the records that came to a terminal (profile).
use Rattle.std.specs.Prelude.{◌≡◌, ℕ, List, [], ◌++◌, map, flat_map}
use Rattle.file_spec.specs.declared.conference_lines.PlanLine.{PlanLine}
use Rattle.wire_spec.specs.Dump.{Item, sent_item}
use Rattle.mixer_spec.specs.Arrives.{came, item_of}
use Rattle.playback.specs.declared.copies.Arrival.{Arrival}
use Rattle.playback.specs.Arriving.{copy_of, copies_of}
use Rattle.terminal.specs.declared.settings.TerminalSettings.{TerminalSettings}
use Rattle.terminal.specs.declared.terminals.Terminal.{Terminal}
use Rattle.terminal.specs.Terminals.{Listens, Heard, reception}
use Rattle.sent_log.specs.States.{IsStreamOf, OfTerminal, Sending, State, records_of}
use Rattle.playback.specs.declared.indexes.RecordIndex.{RecordIndex}
use Rattle.playback.specs.Written.{AreRecords, IsWrittenOf}
use Rattle.playback.specs.Finds.{Finds}
use Rattle.playback.specs.Whole.{IsHeardAsSent}
use Rattle.stream_spec.specs.Own.{Sent}

-- where nothing came before, this came
abbrev pub Hears : Terminal → List Item → Terminal → Type 0
Hears old items new = (c : TerminalSettings) (sources : List ℕ) → Listens old c sources [] → Listens new c sources items

-- what comes of it by the plan came
abbrev pub HearsSent : Terminal → List PlanLine → ℕ → Terminal → Sending → Type 0
HearsSent old plan number new x = Hears old (came plan number (records_of x.settings x.sent)) new

-- what comes of these records by the plan came
abbrev pub HearsByPlan : Terminal → List ℕ → List PlanLine → ℕ → Terminal → Type 0
HearsByPlan old octets plan number new = (c : TerminalSettings) (sources : List ℕ) (all : List (ℕ × List ℕ))
    → AreRecords octets all → Listens old c sources [] → Listens new c sources (came plan number all)

-- these copies came, of records that were found
abbrev pub HearsCopies : Terminal → List ℕ → RecordIndex → List Arrival → Terminal → Type 0
HearsCopies old octets found copies new =
    (c : TerminalSettings) (sources : List ℕ) (all : List (ℕ × List ℕ)) → AreRecords octets all
    → Finds found octets all → Listens old c sources []
    → Listens new c sources (flat_map (item_of all) (copies_of copies))

-- behind whatever came, this copy came
abbrev pub HearsCopy : Terminal → List ℕ → RecordIndex → Arrival → Terminal → Type 0
HearsCopy old octets found copy new =
    (c : TerminalSettings) (sources : List ℕ) (heard : List Item) (all : List (ℕ × List ℕ))
    → AreRecords octets all → Finds found octets all → Listens old c sources heard
    → Listens new c sources (heard ++ item_of all (copy_of copy))

-- what comes by the plan of the records of this recording was heard to its end
abbrev pub HeardByPlan : TerminalSettings → List ℕ → List ℕ → List PlanLine → ℕ → Terminal → Type 0
HeardByPlan settings sources recording plan number terminal = (records : List (ℕ × List ℕ))
    → IsWrittenOf recording records → Heard terminal settings sources (came plan number records)

-- all that was sent comes as it was sent, and is a stream that is heard
pub record HearsAll (settings : TerminalSettings) (log : State) (terminal : ℕ) (plan : List PlanLine) : Type 0 where
  pub stream : OfTerminal log terminal (IsStreamOf settings.ssrc settings.payload_types)
  pub same : OfTerminal log terminal (λ x. came plan terminal (records_of x.settings x.sent) ≡ map sent_item (records_of x.settings x.sent))

-- what comes by the plan of the records of this recording is heard as this was sent
abbrev pub HearsAsSent : TerminalSettings → List ℕ → List PlanLine → ℕ → List Sent → Type 0
HearsAsSent settings recording plan number past =
    (records : List (ℕ × List ℕ)) → IsWrittenOf recording records
    → IsHeardAsSent (reception settings) past (came plan number records)
