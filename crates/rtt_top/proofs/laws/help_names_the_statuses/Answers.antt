use Rattle.rtt_top.proofs.Statuses.{named}
use Rattle.rtt_top.proofs.laws.help_names_the_statuses.Goals as goal

pub returns : goal.returns
returns c = named
