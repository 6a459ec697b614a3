use Rattle.command_spec.proofs.named_laws.shown_is_named.Goals as goal
use Rattle.command_spec.proofs.Showing.{any_law, end_law, sent_law}

pub returns-clause-sent : goal.returns-clause-sent
returns-clause-sent c = sent_law

pub returns-clause-end : goal.returns-clause-end
returns-clause-end c = end_law

pub returns-clause-any : goal.returns-clause-any
returns-clause-any c = any_law
