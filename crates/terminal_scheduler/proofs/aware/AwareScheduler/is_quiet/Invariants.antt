use Rattle.std.proofs.Common.{◌≡◌, true}
use Rattle.mixer_spec.specs.Rounds.{all_below}
use Rattle.terminal_scheduler.specs.AwareTurns.{AtTable}
use Rattle.terminal_scheduler.proofs.AwareResting.{is_done_with}
use Rattle.terminal_scheduler.proofs.aware.AwareScheduler.is_quiet.Given as goal

abbrev pub invariant-loop-leg : goal.invariant-loop-leg
invariant-loop-leg l = AtTable l.fn.self l.fn.slots (λ s table d. all_below (is_done_with s l.fn.self.own d) l.leg ≡ true)
