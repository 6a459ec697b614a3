use Rattle.std.proofs.Common.{rules}
use Rattle.recorded_links.proofs.Turns.{begins, forks}
use Rattle.recorded_links.proofs.passes.Shelf.new.Goals as goal

pub ruled-requires-clause-rule : goal.ruled-requires-clause-rule
ruled-requires-clause-rule c = begins

pub another-take-requires-clause-rule : goal.another-take-requires-clause-rule
another-take-requires-clause-rule c = forks _ _ (search rules) (search rules)
