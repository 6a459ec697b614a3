use Rattle.mix_loop.specs.Walks.{NoneFailedBelow}
use Rattle.mix_loop.proofs.live_turns.first_failed.Given as goal

abbrev pub invariant-loop-leg : goal.invariant-loop-leg
invariant-loop-leg g l = NoneFailedBelow l.leg l.ports
