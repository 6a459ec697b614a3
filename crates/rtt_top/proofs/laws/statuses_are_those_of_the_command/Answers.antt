use Rattle.rtt_top.proofs.Statuses.{can}
use Rattle.rtt_top.proofs.laws.statuses_are_those_of_the_command.Goals as goal

pub returns : goal.returns
returns g c = can g.W.World.tells g.K.Sink.tells g.E.Sink.tells
