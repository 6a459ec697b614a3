-- What a mixer stands for: the calls that were made of it, newest first (profile).
use Rattle.std.specs.Prelude.{◌≡◌, ℕ, ◌<◌, ◌≤◌, Some, List, [], ◌∷◌, length, slice_get, slice_index_or}
use Rattle.mixer_spec.specs.Setups.{Setup, IsSetup, gap}
use Rattle.mixer_spec.specs.Table.{Table, Terminal, Call, after_calls}
use Rattle.mixer_spec.specs.Calls.{turns_made}
use Rattle.mixer_places.specs.SlotStanding as slots
use Rattle.mixer_places.specs.SeatStanding as seatings
use Rattle.terminal_scheduler.specs.declared.schedulers.TerminalScheduler.{TerminalScheduler}
use Rattle.terminal_scheduler.specs.Schedulers as schedulers
use Rattle.mixer.specs.Allowed.{AreAllowed}
use Rattle.mixer.specs.States.{State}
use Rattle.rtt_base.specs.declared.limits.TheConstants.{LONGEST_STEP}

-- each stands for the terminal of its leg
abbrev pub AreSchedulers : Setup → List TerminalScheduler → (ℕ → Terminal) → Type 0
AreSchedulers s all terminals = (j : ℕ) (o : TerminalScheduler) → slice_get all j ≡ Some o
    → schedulers.SchedulerStandsFor s j o (terminals j)

-- The parts of the mixer stand for those of the table, and the names are those of the legs.
pub record Keeps (s : Setup) (m : State) (table : Table) : Type 0 where
  pub legs : length m.schedulers ≡ s.legs
  pub seats : seatings.SeatingStandsFor s m.seating table.seats
  pub waits : slots.SlotsStandFor s m.slots table
  pub schedulers : AreSchedulers s m.schedulers table.terminals
  pub names : (i : ℕ) → i < s.legs → slice_index_or m.names i [] ≡ s.name i

-- These calls were made of the mixer, each where it is allowed.
pub record MixerStandsFor (s : Setup) (m : State) (calls : List Call) : Type 0 where
  pub setup : IsSetup s
  pub near : gap s ≤ LONGEST_STEP
  pub step : s.step ≡ 200
  pub allowed : AreAllowed s calls
  pub keeps : Keeps s m (after_calls s calls)
  pub media : m.media ≡ (after_calls s calls).media
  pub turns : m.turns ≡ turns_made calls

-- whatever calls it stands for
abbrev pub MixerTells : State → (Setup → Table → Type 0) → Type 0
MixerTells m P = (s : Setup) (calls : List Call) → MixerStandsFor s m calls → P s (after_calls s calls)

-- from all calls for which it stood to these and one call more, where that is allowed
abbrev pub LeadsByCall : State → State → Call → Type 0
LeadsByCall old new call = (s : Setup) (calls : List Call) → MixerStandsFor s old calls
    → AreAllowed s (call ∷ calls) → MixerStandsFor s new (call ∷ calls)
