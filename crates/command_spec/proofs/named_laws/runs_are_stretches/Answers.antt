use Rattle.command_spec.proofs.named_laws.runs_are_stretches.Goals as goal
use Rattle.command_spec.proofs.Cutting.{runs_law, hop_law, each_law, all_law}

pub returns-clause-history : goal.returns-clause-history
returns-clause-history c = runs_law

pub returns-clause-hop : goal.returns-clause-hop
returns-clause-hop c = hop_law

pub returns-clause-all : goal.returns-clause-all
returns-clause-all c = all_law

pub returns-clause-each : goal.returns-clause-each
returns-clause-each c = each_law
