use Rattle.std.proofs.Common.{◌≤◌, ◌<◌, ℕ, ap, subst}
use Rattle.terminal_scheduler.specs.AwareStates.{AwareState}
use Rattle.terminal_scheduler.proofs.AwareResting.{none_due}
use Rattle.terminal_scheduler.proofs.aware.AwareScheduler.calm_until.Goals as goal

pub returns : goal.returns
returns c = λ s d h seats t l.
    let o = c.args.self.now in
    let next : o.next ≤ 16 = subst (λ (x : AwareState). x.next ≤ 16) c.self.view_is c.self.invariant.next in
    none_due s seats o t d h (subst (λ (n : ℕ). t < n) (ap (λ (x : AwareState). x.calm) c.self.view_is) l) next
