use Rattle.std.proofs.Common.{◌≡◌, subst}
use Rattle.mixer_spec.specs.Table.{has_work}
use Rattle.terminal_scheduler.specs.declared.schedulers.TerminalScheduler.{TerminalScheduler}
use Rattle.terminal_scheduler.specs.Schedulers.{SchedulerStandsFor}
use Rattle.terminal_scheduler.proofs.Turning.{of_table}
use Rattle.terminal_scheduler.proofs.schedulers.TerminalScheduler.has_work.Goals as goal

pub returns-in-Aware : goal.returns-in-Aware
returns-in-Aware c = λ s j table h w.
    let r = subst (λ (x : TerminalScheduler). SchedulerStandsFor s j x (table.terminals j)) c.in-Aware.is h in
    of_table s j table c.in-Aware.scheduler c.args.slots.now (λ s k d. c.has_work.result ≡ has_work s k d c.args.source) r.1 w c.has_work.ensures

pub returns-in-Unaware : goal.returns-in-Unaware
returns-in-Unaware c = λ s j table h w.
    let r = subst (λ (x : TerminalScheduler). SchedulerStandsFor s j x (table.terminals j)) c.in-Unaware.is h in
    c.has_work-in-Unaware.ensures s j table r.1 w
