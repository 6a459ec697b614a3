use Rattle.workers.specs.Passes.{IsPushOf}
use Rattle.workers.proofs.queue_tests.fill.Given as goal

abbrev pub invariant-loop-value : goal.invariant-loop-value
invariant-loop-value g l = IsPushOf l.queue l.pass
