use Rattle.std.proofs.Common.{sym, subst}
use Rattle.terminal_scheduler.specs.AwareStates.{AwareState}
use Rattle.terminal_scheduler.specs.AwareStanding.{AwareStandsFor}
use Rattle.terminal_scheduler.proofs.AwareResting.{stands_calm}
use Rattle.terminal_scheduler.proofs.aware.AwareScheduler.rest.Goals as goal

pub returns-clause-stands : goal.returns-clause-stands
returns-clause-stands c = λ s table h.
    let o = c.args.self.now in
    let d = table.terminals o.own in
    subst (λ (x : AwareState). AwareStandsFor s o.own (record x { calm = c.any_due_from-calm.result }) d) (sym c.self.view_is)
    (stands_calm s o.own o d c.any_due_from-calm.result d.waits h.scheduler (c.any_due_from-calm.ensures s table h))
