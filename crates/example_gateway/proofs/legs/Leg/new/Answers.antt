use Rattle.std.proofs.Common.{refl}
use Rattle.example_gateway.proofs.Ears.{begins_giving}
use Rattle.example_gateway.proofs.legs.Leg.new.Goals as goal

pub invariant_of-result : goal.invariant_of-result
invariant_of-result c = record {
  giving = ∣ begins_giving c.in_ok-new.field-0 _ _ c.index-as_slice-leg.result.ssrc c.in_ok-new.ensures.gave refl ∣₁;
  text = λ e. absurd (cc e);
}
