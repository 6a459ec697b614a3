use Rattle.std.proofs.Common.{◌≡◌}
use Rattle.example_gateway.specs.Outputs.{counts_of}
use Rattle.example_gateway.proofs.gateways.send_all.Given as goal

abbrev pub invariant-loop-post : goal.invariant-loop-post
invariant-loop-post g l = counts_of l.outputs ≡ counts_of l.fn.outputs
