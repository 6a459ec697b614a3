use Rattle.promise_tests.proofs.Cascading.{cascades_tell}
use Rattle.promise_tests.proofs.laws.cascades_tell_what_was_typed.Goals as goal

pub returns : goal.returns
returns c = cascades_tell c.told_in_pieces.ensures.said c.texts_are_characters.ensures.whole
