use Rattle.example_gateway.specs.Mixers.{IsSame}
use Rattle.example_gateway.proofs.legs.Leg.offer_all.Given as goal

abbrev pub invariant-loop : goal.invariant-loop
invariant-loop l = IsSame l.fn.mixer l.mixer
