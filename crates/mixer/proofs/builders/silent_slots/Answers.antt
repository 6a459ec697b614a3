use Rattle.std.proofs.Common.{◌≡◌, ℕ, subst, ◌∙◌, arith}
use Rattle.mixer_places.specs.SlotStanding.{SlotsStandFor}
use Rattle.mixer.proofs.Made.{listening_from, all_first, one_less, none_listens}
use Rattle.mixer.proofs.builders.silent_slots.Goals as goal

pub loop-leg-init : goal.loop-leg-init
loop-leg-init c = record { count = c.in_ok-slots.ensures.legs; stands = λ s e. all_first s c.in_ok-slots.slots (c.in_ok-slots.ensures.stands s e) }

pub loop-leg-preserved : goal.loop-leg-preserved
loop-leg-preserved c = record {
  count = c.listen.ensures.legs ∙ c.loop-leg.invariant.count;
  stands = λ s e. one_less s c.listen.new.self c.loop-leg.leg (c.listen.ensures.stands s (listening_from c.loop-leg.leg) (c.loop-leg.invariant.stands s e) (λ q. cc q));
}

pub returns-clause-stands : goal.returns-clause-stands
returns-clause-stands c = λ s e.
    let at : c.loop-leg.leg ≡ s.legs = omega (arith, c.loop-leg-test.false, c.loop-leg.auto.leg-end, e) in
    none_listens s c.loop-leg.slots (subst (λ (n : ℕ). SlotsStandFor s c.loop-leg.slots (listening_from n)) at (c.loop-leg.invariant.stands s e))
