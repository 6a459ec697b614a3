use Rattle.std.proofs.Math.Logic.{∥∥₁_map}
use Rattle.reorder_buffer.specs.Stories.{went}
use Rattle.example_gateway.proofs.Ears.{becomes_giving}
use Rattle.example_gateway.proofs.legs.Leg.expire.Goals as goal

pub invariant_of-self : goal.invariant_of-self
invariant_of-self c =
    let leg = c.offer_all.new.self in
    record {
      giving = ∥∥₁_map leg.giving (becomes_giving leg.ear c.expire.new.self (λ settings story. went story c.args.now) c.expire.ensures.becomes);
      text = leg.text;
    }
