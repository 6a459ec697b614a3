use Rattle.std.proofs.Common.{refl}
use Rattle.receiver.proofs.receivers.Receiver.new.Goals as goal
use Rattle.receiver.proofs.Parts.{seat_more, stands_for_none, all_seats}

pub loop-source-preserved : goal.loop-source-preserved
loop-source-preserved c = seat_more _ _ _ _ _ c.in_ok-push.ensures.items refl refl c.loop-source-test.true c.loop-source.invariant

pub returns-clause-stands : goal.returns-clause-stands
returns-clause-stands c =
    stands_for_none _ _ (all_seats _ _ _ c.loop-source.invariant.0 c.loop-source-test.false) c.loop-source.invariant.1 c.requires.few c.requires.differ refl refl
