-- What the terminal_scheduler of a terminal stands for, be the terminal aware or not (profile).
use Rattle.std.specs.Prelude.{◌≡◌, ◌<◌, ℕ, Bool, true, false, Option, List, length}
use Rattle.stream_spec.specs.Ready.{Chunk}
use Rattle.mixer_spec.specs.Setups.{Setup, stream}
use Rattle.mixer_spec.specs.Laws.{AreTexts}
use Rattle.mixer_spec.specs.Table.{Seats, Terminal, Table, empty, is_seated, turn_at}
use Rattle.mixer_places.specs.Lanes.{Waiting}
use Rattle.mixer_places.specs.SlotStanding as slots
use Rattle.mixer_places.specs.States.{State}
use Rattle.mixer_places.specs.SeatStanding as seatings
use Rattle.unaware_view.specs.Standing.{name_at}
use Rattle.terminal_scheduler.specs.declared.schedulers.TerminalScheduler.{TerminalScheduler}
use Rattle.terminal_scheduler.specs.declared.schedulers.TerminalScheduler.TheVariants.{Aware, Unaware}
use Rattle.terminal_scheduler.specs.Turns.{Puts, SendsNext, new_entry, with_terminal}
use Rattle.terminal_scheduler.specs.AwareStanding as aware
use Rattle.terminal_scheduler.specs.AwareStanding.{IsMadeFor}
use Rattle.terminal_scheduler.specs.UnawareStates as unaware_state
use Rattle.terminal_scheduler.specs.UnawareStanding as unaware

-- the terminal's leg
abbrev pub own_of : TerminalScheduler → ℕ
own_of (Aware o) = o.own
own_of (Unaware o) = unaware_state.own_of o

-- the number of legs
abbrev pub legs_of : TerminalScheduler → ℕ
legs_of (Aware o) = length o.free_at
legs_of (Unaware o) = unaware_state.legs_of o

-- how many sources its terminal is sent: all legs, or the mixer alone
abbrev pub sources_of : TerminalScheduler → ℕ
sources_of (Aware o) = length o.free_at
sources_of (Unaware o) = 1

-- it is of the same leg, of as many, and of as many sources
abbrev pub SameLeg : TerminalScheduler → TerminalScheduler → Type 0
SameLeg old new = (own_of new ≡ own_of old) × (legs_of new ≡ legs_of old) × (sources_of new ≡ sources_of old)

-- the least media time of the next turn
abbrev pub next_turn : TerminalScheduler → ℕ
next_turn (Aware o) = 0
next_turn (Unaware o) = unaware_state.next_turn o

-- This was sent to the terminal j.
abbrev pub SchedulerStandsFor : Setup → ℕ → TerminalScheduler → Terminal → Type 0
SchedulerStandsFor s j (Aware o) d = (s.aware j ≡ true) × aware.AwareStandsFor s j o d
SchedulerStandsFor s j (Unaware o) d = (s.aware j ≡ false) × unaware.UnawareStandsFor s j o d

-- Made so, aware or not, it stands for a terminal of this leg to which nothing was sent.
abbrev pub StandsNew : Bool → (generations legs own room spacing : ℕ) → Option ℕ → TerminalScheduler → Type 0
StandsNew aware generations legs own room spacing relabel o =
    (s : Setup) → IsMadeFor s generations legs own room spacing → s.relabel ≡ relabel → aware ≡ s.aware own
    → SchedulerStandsFor s own o (empty.terminals own)

-- it stands for the same terminal, whatever waits there
abbrev pub StandsWoken : TerminalScheduler → TerminalScheduler → Type 0
StandsWoken old new =
    (s : Setup) (j : ℕ) (d : Terminal) (waits : ℕ → List Chunk)
    → SchedulerStandsFor s j old d → SchedulerStandsFor s j new (record d { waits = waits })

-- of each terminal for which it stands, where the slots have what waits
abbrev pub OfTerminals : TerminalScheduler → List Waiting → (Setup → ℕ → Terminal → Type 0) → Type 0
OfTerminals o waiting P = (s : Setup) (j : ℕ) (table : Table) → SchedulerStandsFor s j o (table.terminals j)
    → slots.SlotsStandFor s waiting table → P s j (table.terminals j)

-- ---- a turn
-- the terminal j after a turn at the moment `now`, with the media time t
abbrev pub turned_here : Setup → ℕ → ℕ → ℕ → Table → Terminal
turned_here s j now t table = turn_at s table.seats j now t (table.terminals j)

-- whoever holds which place, no turn before this media time changes anything at the terminal for which it stands
abbrev pub IsCalmBefore : ℕ → TerminalScheduler → Type 0
IsCalmBefore calm o = (s : Setup) (j : ℕ) (d : Terminal) → SchedulerStandsFor s j o d
    → (seats : Seats) (now t : ℕ) → t < calm → turn_at s seats j now t d ≡ d

-- Such a turn at the terminal j, which holds a place and for which the terminal_scheduler stands: the slots have what waits there, which
-- are texts, these are the seats and the names, and what is sent may be sent.
pub record IsTurn (s : Setup) (j : ℕ) (table : Table) (o : TerminalScheduler) (places : State) (waiting : List Waiting) (called : List (List ℕ)) (now t : ℕ) : Type 0 where
  pub stands : SchedulerStandsFor s j o (table.terminals j)
  pub seats_stand : seatings.SeatingStandsFor s places table.seats
  pub slots_stand : slots.SlotsStandFor s waiting table
  pub seated : is_seated table.seats j ≡ true
  pub texts : (i : ℕ) → AreTexts ((table.terminals j).waits i)
  pub names : (i : ℕ) → i < s.legs → name_at called i ≡ s.name i
  pub next : SendsNext (stream s j) (table.terminals j).past (turned_here s j now t table).past

-- The turn is over: the terminal_scheduler and the slots stand for what the definition leaves, and of this source this text is sent, if
-- anything is.
pub record IsTurned (s : Setup) (j : ℕ) (table : Table) (now t : ℕ) (o : TerminalScheduler) (after : List Waiting) (source : Option ℕ) (text : List ℕ) : Type 0 where
  pub stands : SchedulerStandsFor s j o (turned_here s j now t table)
  pub slots_stand : slots.SlotsStandFor s after (with_terminal j (turned_here s j now t table) table)
  pub puts : Puts (s.aware j) t (new_entry (table.terminals j).past (turned_here s j now t table).past) source text

-- of all turns that it may be
abbrev pub OfTurns : TerminalScheduler → State → List Waiting → List (List ℕ) → ℕ
    → (Setup → ℕ → Table → ℕ → Type 0) → Type 0
OfTurns o places waiting called t P = (s : Setup) (j : ℕ) (table : Table) (now : ℕ)
    → IsTurn s j table o places waiting called now t → P s j table now
