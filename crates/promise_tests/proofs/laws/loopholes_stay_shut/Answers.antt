use Rattle.promise_tests.proofs.Shutting.{shut}
use Rattle.promise_tests.proofs.laws.loopholes_stay_shut.Goals as goal

pub returns : goal.returns
returns g c = shut g.W.World.tells g.K.Sink.tells g.E.Sink.tells c.statuses_are_those_of_the_command.ensures
