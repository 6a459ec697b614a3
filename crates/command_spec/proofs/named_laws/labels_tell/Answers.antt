use Rattle.command_spec.proofs.named_laws.labels_tell.Goals as goal
use Rattle.command_spec.proofs.Labels.{before_law, behind_law}

pub returns-clause-behind : goal.returns-clause-behind
returns-clause-behind c = behind_law

pub returns-clause-before : goal.returns-clause-before
returns-clause-before c = before_law
