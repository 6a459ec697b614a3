use Rattle.std.proofs.Common.{subst}
use Rattle.terminal_scheduler.specs.declared.schedulers.TerminalScheduler.{TerminalScheduler}
use Rattle.terminal_scheduler.specs.Schedulers.{SchedulerStandsFor}
use Rattle.terminal_scheduler.proofs.schedulers.TerminalScheduler.wake.Goals as goal

pub returns-in-Unaware-clause-stands : goal.returns-in-Unaware-clause-stands
returns-in-Unaware-clause-stands c = λ s j d waits h.
    let r = subst (λ (x : TerminalScheduler). SchedulerStandsFor s j x d) c.in-Unaware.is h in
    (r.0, c.wake-in-Unaware.ensures.stands s j d waits r.1)
