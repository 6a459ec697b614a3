use Rattle.std.proofs.Common.{◌≡◌, ◌<◌, ℕ, true, Some}
use Rattle.std.specs.Prelude.{slice_get}
use Rattle.mixer_places.specs.Places.{has_place}
use Rattle.terminal_scheduler.specs.declared.schedulers.TerminalScheduler.{TerminalScheduler}
use Rattle.terminal_scheduler.specs.Schedulers.{IsCalmBefore}
use Rattle.mixer.proofs.calm.calm_until.Given as goal

abbrev pub invariant-loop-leg : goal.invariant-loop-leg
invariant-loop-leg l = (j : ℕ) (o : TerminalScheduler) → j < l.leg → slice_get l.schedulers j ≡ Some o → has_place l.seating j ≡ true → IsCalmBefore l.until o
