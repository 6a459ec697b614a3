use Rattle.mix_loop.specs.Turns.{NoFaultBelow}
use Rattle.mix_loop.proofs.turns.lowest_fault.Given as goal

abbrev pub invariant-loop-leg : goal.invariant-loop-leg
invariant-loop-leg g l = NoFaultBelow l.leg l.ports
