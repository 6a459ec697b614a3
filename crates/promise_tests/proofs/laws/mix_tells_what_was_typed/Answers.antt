use Rattle.promise_tests.proofs.Mixing.{mix_tells}
use Rattle.promise_tests.proofs.laws.mix_tells_what_was_typed.Goals as goal

pub returns : goal.returns
returns g c = mix_tells c.told_in_pieces.ensures.said c.texts_are_cut.ensures.whole g.W.World.tells g.K.Sink.tells g.E.Sink.tells
