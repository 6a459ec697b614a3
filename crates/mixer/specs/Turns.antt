-- A turn of all terminals, one after the other, and what it sends.
use Rattle.std.specs.Prelude.{◌≡◌, ℕ, zero, suc, ◌<◌, ◌≤◌, Option, None, Some, List, [], ◌∷◌, ◌++◌, length, map, slice_get, slice_index_or}
use Rattle.mixer_spec.specs.Setups.{Setup, stream}
use Rattle.mixer_spec.specs.Table.{Call, Seats, Table, TurnEntry, turn_at, turned, turned_to, after_calls}
use Rattle.mixer_spec.specs.Laws.{AreTexts}
use Rattle.mixer_places.specs.Lanes.{Waiting}
use Rattle.mixer_places.specs.SlotStanding as slots
use Rattle.mixer_places.specs.States as seating
use Rattle.mixer_places.specs.SeatStanding as seatings
use Rattle.terminal_scheduler.specs.declared.schedulers.TerminalScheduler.{TerminalScheduler}
use Rattle.terminal_scheduler.specs.Turns.{SendsNext, new_entry, number_of, with_terminal}
use Rattle.terminal_scheduler.specs.Schedulers as schedulers
use Rattle.terminal_scheduler.specs.Schedulers.{own_of, legs_of, next_turn, IsTurned}
use Rattle.mixer.specs.declared.batches.Post.{Post}
use Rattle.mixer.specs.States.{State}
use Rattle.mixer.specs.Standing as mixers
use Rattle.mixer.specs.Standing.{AreSchedulers}

-- ---- schedulers
-- the terminal_scheduler of the leg j, of so many legs, whose next turn may have this media time
pub record IsSchedulerOf (legs media j : ℕ) (o : TerminalScheduler) : Type 0 where
  pub own : own_of o ≡ j
  pub all : legs_of o ≡ legs
  pub next : next_turn o ≤ media

abbrev pub AreSchedulersOf : ℕ → ℕ → List TerminalScheduler → Type 0
AreSchedulersOf legs media all = (j : ℕ) (o : TerminalScheduler) → slice_get all j ≡ Some o
    → IsSchedulerOf legs media j o

-- ---- what a turn rests on
-- each place that is held is one of the mixer's, and one of its legs holds it
pub record AreHeld (s : Setup) (seats : Seats) : Type 0 where
  pub below : (a p : ℕ) → seats.place a ≡ Some p → (p < s.places) × (a < s.legs)
  pub one : (a b p : ℕ) → seats.place a ≡ Some p → seats.place b ≡ Some p → a ≡ b

-- All terminals may have a turn at the moment `now`, with the media time t.
pub record MayTurnAll (s : Setup) (table : Table) (now t : ℕ) : Type 0 where
  pub held : AreHeld s table.seats
  pub texts : (j i : ℕ) → AreTexts ((table.terminals j).waits i)
  pub next : (j : ℕ) → SendsNext (stream s j) (table.terminals j).past (turn_at s table.seats j now t (table.terminals j)).past

-- the first n terminals had theirs
abbrev pub turned_below : Setup → ℕ → ℕ → Table → ℕ → Table
turned_below s now t table zero = table
turned_below s now t table (suc n) = with_terminal n (turn_at s table.seats n now t (table.terminals n)) (turned_below s now t table n)

-- ---- what is sent
-- what the terminal j is sent by this entry
abbrev pub post_of : Setup → ℕ → TurnEntry → Post
post_of s j e = record { terminal = j; source = number_of (s.aware j) e; media = e.sent.media; text = e.sent.text }

-- what the first n terminals were sent between these tables
abbrev pub posts_between : Setup → Table → Table → ℕ → List Post
posts_between s before after zero = []
posts_between s before after (suc n) =
    posts_between s before after n ++ map (post_of s n) (new_entry (before.terminals n).past (after.terminals n).past)

-- what a turn at the moment `now` sends, in leg order
abbrev pub posts_at : Setup → ℕ → Table → List Post
posts_at s now table = posts_between s table (turned s now table) s.legs

abbrev pub HasBatch : Setup → ℕ → Table → List Post → Type 0
HasBatch s now table batch = batch ≡ posts_at s now table

-- the batch behind a turn of the terminal n with the media time t that sent this text of this source, or nothing
abbrev pub batch_with : Option ℕ → (n t : ℕ) → List ℕ → List Post → List Post
batch_with None n t text batch = batch
batch_with (Some source) n t text batch = batch ++ record { terminal = n; source = source; media = t; text = text } ∷ []

-- ---- one terminal
-- A turn of the terminal j is over, and what it sends is put into the batch as the leg's.
pub record IsPut (s : Setup) (j leg : ℕ) (table : Table) (now t : ℕ) (o : TerminalScheduler) (after : List Waiting) (old new : List Post) : Type 0 where
  pub source : Option ℕ
  pub text : List ℕ
  pub turned : IsTurned s j table now t o after source text
  pub batch : new ≡ batch_with source leg t text old

-- the first n terminals had their turn: the slots stand for the table then, and the batch has what was sent
pub record Reaches (s : Setup) (table : Table) (now t n : ℕ) (waiting : List Waiting) (batch : List Post) : Type 0 where
  pub waits : slots.SlotsStandFor s waiting (turned_below s now t table n)
  pub posts : batch ≡ posts_between s table (turned_to s now t table) n

abbrev pub AreNames : Setup → List (List ℕ) → Type 0
AreNames s called = (i : ℕ) → i < s.legs → slice_index_or called i [] ≡ s.name i

-- the terminal of the leg may have its turn: its terminal_scheduler, these seats and these names stand for those of the
-- table
pub record LegMayTurn (s : Setup) (table : Table) (now t leg : ℕ) (o : TerminalScheduler) (places : seating.State) (called : List (List ℕ)) : Type 0 where
  pub all : MayTurnAll s table now t
  pub stands : schedulers.SchedulerStandsFor s leg o (table.terminals leg)
  pub seats : seatings.SeatingStandsFor s places table.seats
  pub names : AreNames s called

-- it had its turn
pub record LegTurned (s : Setup) (table : Table) (now t leg : ℕ) (o : TerminalScheduler) (waiting : List Waiting) (batch : List Post) : Type 0 where
  pub stands : schedulers.SchedulerStandsFor s leg o (turn_at s table.seats leg now t (table.terminals leg))
  pub reaches : Reaches s table now t (suc leg) waiting batch

-- ---- all terminals
-- the parts of a mixer stand for those of the table, and all terminals may have a turn
pub record AllMayTurn (s : Setup) (table : Table) (now t : ℕ) (all : List TerminalScheduler) (places : seating.State) (waiting : List Waiting) (called : List (List ℕ)) : Type 0 where
  pub may : MayTurnAll s table now t
  pub legs : length all ≡ s.legs
  pub schedulers : AreSchedulers s all table.terminals
  pub seats : seatings.SeatingStandsFor s places table.seats
  pub waits : slots.SlotsStandFor s waiting table
  pub names : AreNames s called

-- they had it, and this is sent
pub record AllTurned (s : Setup) (table : Table) (now t : ℕ) (all : List TerminalScheduler) (waiting : List Waiting) (batch : List Post) : Type 0 where
  pub schedulers : AreSchedulers s all (turned_to s now t table).terminals
  pub waits : slots.SlotsStandFor s waiting (turned_to s now t table)
  pub posts : batch ≡ posts_between s table (turned_to s now t table) s.legs

-- of all mixers that have these parts
abbrev pub OfMixers : List TerminalScheduler → seating.State → List Waiting → List (List ℕ) → ℕ
    → (Setup → Table → ℕ → Type 0) → Type 0
OfMixers all places waiting called t P =
    (s : Setup) (table : Table) (now : ℕ) → AllMayTurn s table now t all places waiting called → P s table now

-- of all calls for which the mixer stands
abbrev pub OfCalls : State → (Setup → Table → Type 0) → Type 0
OfCalls m P = (s : Setup) (calls : List Call) → mixers.MixerStandsFor s m calls → P s (after_calls s calls)
