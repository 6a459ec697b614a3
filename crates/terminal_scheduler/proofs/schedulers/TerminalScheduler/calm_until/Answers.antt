use Rattle.std.proofs.Common.{subst, arith}
use Rattle.terminal_scheduler.specs.declared.schedulers.TerminalScheduler.{TerminalScheduler}
use Rattle.terminal_scheduler.specs.Schedulers.{SchedulerStandsFor}
use Rattle.terminal_scheduler.proofs.Turning.{aware_calm}
use Rattle.terminal_scheduler.proofs.schedulers.TerminalScheduler.calm_until.Goals as goal

pub returns-in-Aware : goal.returns-in-Aware
returns-in-Aware c = λ s j d h.
    let r = subst (λ (x : TerminalScheduler). SchedulerStandsFor s j x d) c.in-Aware.is h in
    aware_calm s j d c.in-Aware.scheduler c.calm_until.result r.0 r.1 c.calm_until.ensures

pub returns-in-Unaware : goal.returns-in-Unaware
returns-in-Unaware c = λ s j d h seats now t l. absurd (omega (arith, l))
