use Rattle.std.proofs.Common.{◌≡◌, Some, inl, inr, ap, sym, subst, ◌∙◌, arith}
use Rattle.std.specs.Prelude.{slice_get}
use Rattle.std.proofs.lemmas.Bool.{cases_eq}
use Rattle.mix_loop.specs.Calm.{IsCalm}
use Rattle.mix_loop.proofs.Lists.{get_within}
use Rattle.mix_loop.proofs.turns.calm_until.Goals as goal
use Rattle.stream_spec.proofs.Plain.{get_read}

pub returns-then-all_empty : goal.returns-then-all_empty
returns-then-all_empty g c = λ t l. absurd (omega (arith, l))

pub loop-leg-init : goal.loop-leg-init
loop-leg-init g c = λ j p low. absurd (omega (arith, low))

pub loop-leg-preserved : goal.loop-leg-preserved
loop-leg-preserved g c = λ j p low at t l. elim (cases_eq j c.loop-leg.leg) [
  | inl e ↦
      let here = get_read c.args.ports.now c.loop-leg.leg c.index-ports-leg.result (omega (arith, c.loop-leg-test.true)) c.index-ports-leg.is in
      let same : Some p ≡ Some c.index-ports-leg.result = sym at ∙ (ap (slice_get c.args.ports.now) e ∙ here) in
      subst (λ q. IsCalm t q) (sym (cc same)) (c.calm_until.ensures t (omega (arith, l, c.min-until.ensures)))
  | inr n ↦ c.loop-leg.invariant j p (omega (arith, low, n)) at t (omega (arith, l, c.min-until.ensures))
]

pub returns : goal.returns
returns g c = λ t l. record {
  each = λ j p at.
      let low = get_within c.args.ports.now j p at in
      c.loop-leg.invariant j p (omega (arith, low, c.loop-leg-test.false, c.loop-leg.auto.leg-end)) at t l;
  some = sym c.all_empty.ensures ∙ c.if-all_empty.false;
}
