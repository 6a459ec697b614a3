use Rattle.std.proofs.Common.{rules}
use Rattle.workers.proofs.Relaying.{begins, forks}
use Rattle.workers.proofs.passes.ItemQueue.new.Goals as goal

pub ruled-requires-clause-rule : goal.ruled-requires-clause-rule
ruled-requires-clause-rule g c = begins

pub another-pop-requires-clause-rule : goal.another-pop-requires-clause-rule
another-pop-requires-clause-rule g c = forks _ _ (search rules) (search rules)
