use Rattle.file_spec.proofs.laws.crowds_are_seen.Goals as goal
use Rattle.file_spec.proofs.Crowds.{crowds_seen, crowds_only}

pub returns-clause-all : goal.returns-clause-all
returns-clause-all c = crowds_seen

pub returns-clause-only : goal.returns-clause-only
returns-clause-only c = crowds_only
