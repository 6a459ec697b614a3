-- What a mixer of a conference is made of.
use Rattle.std.specs.Prelude.{◌≡◌, ℕ, Some, List, length, map, slice_get, if◌then◌else◌}
use Rattle.file_spec.specs.Conference.{Conference}
use Rattle.mixer_spec.specs.Setups.{setup}
use Rattle.mixer_spec.specs.Table.{empty}
use Rattle.terminal_scheduler.specs.declared.schedulers.TerminalScheduler.{TerminalScheduler}
use Rattle.terminal_scheduler.specs.Schedulers as schedulers
use Rattle.terminal_scheduler.specs.Schedulers.{own_of, legs_of, next_turn, sources_of}

-- how many sources the terminal of each leg is sent: all legs where it is aware, else the mixer alone
abbrev pub source_counts : Conference → List ℕ
source_counts c = map (λ leg. if leg.aware then length c.legs else 1) c.legs

-- the terminal_scheduler of the leg j, to whose terminal nothing was sent
pub record IsMade (c : Conference) (j : ℕ) (o : TerminalScheduler) : Type 0 where
  pub stands : schedulers.SchedulerStandsFor (setup c) j o (empty.terminals j)
  pub own : own_of o ≡ j
  pub legs : legs_of o ≡ length c.legs
  pub sources : slice_get (source_counts c) j ≡ Some (sources_of o)
  pub next : next_turn o ≡ 0

-- one of each leg
pub record AreMade (c : Conference) (all : List TerminalScheduler) : Type 0 where
  pub count : length all ≡ length c.legs
  pub each : (j : ℕ) (o : TerminalScheduler) → slice_get all j ≡ Some o → IsMade c j o
