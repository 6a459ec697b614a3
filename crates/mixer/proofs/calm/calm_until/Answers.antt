use Rattle.std.proofs.Common.{inl, inr, ap, sym, ◌∙◌, arith}
use Rattle.std.specs.Prelude.{slice_get}
use Rattle.std.proofs.lemmas.Bool.{cases_eq}
use Rattle.std.proofs.lemmas.Option.{slice_get_within}
use Rattle.mixer_places.specs.Places.{has_place}
use Rattle.mixer.proofs.calm.calm_until.Goals as goal

pub loop-leg-init : goal.loop-leg-init
loop-leg-init c = λ j o low. absurd (omega (arith, low))

pub loop-leg-preserved : goal.loop-leg-preserved
loop-leg-preserved c = λ j o low at held s k d h seats now t l. elim (cases_eq j c.loop-leg.leg) [
  | inl e ↦
      c.calm_at.ensures o (ap (slice_get c.args.schedulers.now) (sym e) ∙ at) (ap (has_place c.args.seating.now) (sym e) ∙ held) s k d h seats now t
      (omega (arith, l, c.min-until.ensures))
  | inr n ↦ c.loop-leg.invariant j o (omega (arith, low, n)) at held s k d h seats now t (omega (arith, l, c.min-until.ensures))
]

pub returns : goal.returns
returns c = λ j o at held.
    let low = slice_get_within c.args.schedulers.now j o at in
    c.loop-leg.invariant j o (omega (arith, low, c.loop-leg-test.false, c.loop-leg.auto.leg-end)) at held
