use Rattle.std.proofs.Common.{◌≡◌, ◌<◌, length, ap, sym, ◌∙◌, arith}
use Rattle.mixer_spec.specs.Rounds.{all_below}
use Rattle.terminal_scheduler.specs.AwareStates.{AwareState}
use Rattle.terminal_scheduler.proofs.Below.{all_more, fails_at}
use Rattle.terminal_scheduler.proofs.AwareResting.{is_done_with, quiet_is}
use Rattle.terminal_scheduler.proofs.aware.AwareScheduler.is_quiet.Goals as goal

pub returns-then-not-is_done_with : goal.returns-then-not-is_done_with
returns-then-not-is_done_with c = λ s table h.
    let o = c.args.self.now in
    let d = table.terminals o.own in
    let l : c.loop-leg.leg < s.legs = omega (arith, c.loop-leg-test.true, c.len-leg-end.ensures, ap (λ (x : AwareState). length x.free_at) c.self.view_is, h.scheduler.legs) in
    sym (fails_at (is_done_with s o.own d) s.legs c.loop-leg.leg l (sym (c.is_done_with.ensures s table h) ∙ c.if-not-is_done_with.true)) ∙ quiet_is s o.own o d h.scheduler

pub loop-leg-preserved : goal.loop-leg-preserved
loop-leg-preserved c = λ s table h.
    let o = c.args.self.now in
    let d = table.terminals o.own in
    all_more (is_done_with s o.own d) c.loop-leg.leg (c.loop-leg.invariant s table h) (sym (c.is_done_with.ensures s table h) ∙ c.if-not-is_done_with.false)

pub returns : goal.returns
returns c = λ s table h.
    let o = c.args.self.now in
    let d = table.terminals o.own in
    let end : c.loop-leg.leg ≡ s.legs = omega (arith, c.loop-leg-test.false, c.loop-leg.auto.leg-end, c.len-leg-end.ensures, ap (λ (x : AwareState). length x.free_at) c.self.view_is, h.scheduler.legs) in
    sym (c.loop-leg.invariant s table h) ∙ (ap (all_below (is_done_with s o.own d)) end ∙ quiet_is s o.own o d h.scheduler)
