use Rattle.workers.specs.Passes.{IsPopOf}
use Rattle.workers.proofs.queue_tests.empty.Given as goal

abbrev pub invariant-loop-count : goal.invariant-loop-count
invariant-loop-count g l = IsPopOf l.queue l.pass
