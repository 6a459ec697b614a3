use Rattle.promise_tests.proofs.Calling.{live_tells}
use Rattle.promise_tests.proofs.laws.live_calls_tell_what_was_typed.Goals as goal

pub returns : goal.returns
returns c = live_tells c.hops_have_pieces.ensures c.texts_are_cut.ensures.whole c.told_in_pieces.ensures.said c.still_keeps.ensures.lawful c.still_keeps.ensures.come c.one_sender_is_heard.ensures.heard
