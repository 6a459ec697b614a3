use Rattle.std.proofs.Common.{◌≡◌, length}
use Rattle.example_gateway.specs.Mixers.{IsSame}
use Rattle.example_gateway.proofs.gateways.expire_all.Given as goal

abbrev pub invariant-loop-leg : goal.invariant-loop-leg
invariant-loop-leg l = record {
  legs : length l.legs ≡ length l.fn.legs;
  same : IsSame l.fn.mixer l.mixer;
}
