use Rattle.mixer.specs.Waking.{AreWokenBelow}
use Rattle.mixer.proofs.wakes.wake.Given as goal

abbrev pub invariant-loop-terminal : goal.invariant-loop-terminal
invariant-loop-terminal l = AreWokenBelow l.terminal l.fn.schedulers.items l.schedulers.items
