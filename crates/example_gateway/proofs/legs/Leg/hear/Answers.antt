use Rattle.std.proofs.Math.Logic.{∥∥₁_map}
use Rattle.receiver.specs.Hears.{text_for, told}
use Rattle.example_gateway.proofs.Ears.{becomes_giving}
use Rattle.example_gateway.proofs.legs.Leg.hear.Goals as goal

pub invariant_of-self : goal.invariant_of-self
invariant_of-self c =
    let leg = c.offer_all.new.self in
    record {
      giving = ∥∥₁_map leg.giving (becomes_giving leg.ear c.hear-no_text.new.self (λ settings story. told story c.args.now (text_for settings c.args.datagram.now)) c.hear-no_text.ensures.becomes);
      text = leg.text;
    }
