use Rattle.std.proofs.Common.{◌≡◌, ℕ, false, length, inl, inr, ap, subst, sym, arith}
use Rattle.std.proofs.lemmas.Bool.{cases_eq}
use Rattle.mixer_spec.specs.Table.{is_due}
use Rattle.terminal_scheduler.specs.AwareStates.{AwareState}
use Rattle.terminal_scheduler.proofs.aware.AwareScheduler.any_due_from.Goals as goal

pub loop-leg-init : goal.loop-leg-init
loop-leg-init c = λ s table h t l i low. absurd (omega (arith, low))

pub loop-leg-preserved : goal.loop-leg-preserved
loop-leg-preserved c = λ s table h t l i low. elim (cases_eq i c.loop-leg.leg) [
  | inl e ↦ subst (λ (k : ℕ). is_due s c.args.self.now.own t (table.terminals c.args.self.now.own) k ≡ false) (sym e) (c.due_from.ensures s table h t (omega (arith, l, c.min-from.ensures)))
  | inr n ↦ c.loop-leg.invariant s table h t (omega (arith, l, c.min-from.ensures)) i (omega (arith, low, n))
]

pub returns : goal.returns
returns c = λ s table h t l i low.
    let end : c.loop-leg.leg ≡ s.legs = omega (arith, c.loop-leg-test.false, c.loop-leg.auto.leg-end, c.len-leg-end.ensures, ap (λ (x : AwareState). length x.free_at) c.self.view_is, h.scheduler.legs) in
    c.loop-leg.invariant s table h t l i (omega (arith, end, low))
