use Rattle.std.proofs.Common.{sym, subst, arith}
use Rattle.terminal_scheduler.specs.AwareStates.{AwareState}
use Rattle.terminal_scheduler.specs.AwareStanding.{AwareStandsFor}
use Rattle.terminal_scheduler.proofs.AwareResting.{stands_calm}
use Rattle.terminal_scheduler.proofs.aware.AwareScheduler.wake.Goals as goal

pub returns-clause-stands : goal.returns-clause-stands
returns-clause-stands c = λ s d h waits.
    let o = c.args.self.now in
    subst (λ (x : AwareState). AwareStandsFor s o.own (record x { calm = 0 }) (record { past = d.past; asks = d.asks; waits = waits })) (sym c.self.view_is)
    (stands_calm s o.own o d 0 waits h (λ t l. absurd (omega (arith, l))))
