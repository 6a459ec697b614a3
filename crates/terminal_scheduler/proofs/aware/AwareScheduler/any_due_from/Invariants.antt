use Rattle.std.proofs.Common.{◌≡◌, ◌<◌, ℕ, false}
use Rattle.mixer_spec.specs.Table.{is_due}
use Rattle.terminal_scheduler.specs.AwareTurns.{AtTable}
use Rattle.terminal_scheduler.proofs.aware.AwareScheduler.any_due_from.Given as goal

abbrev pub invariant-loop-leg : goal.invariant-loop-leg
invariant-loop-leg l = AtTable l.fn.self l.fn.slots (λ s table d. (t : ℕ) → t < l.from → (i : ℕ) → i < l.leg → is_due s l.fn.self.own t d i ≡ false)
