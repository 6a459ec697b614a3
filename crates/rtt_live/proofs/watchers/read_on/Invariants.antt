use Rattle.rtt_live.specs.Readers.{ReadsSame}
use Rattle.rtt_live.proofs.watchers.read_on.Given as goal

abbrev pub invariant-loop : goal.invariant-loop
invariant-loop g l = ReadsSame l.fn.reader l.reader

abbrev pub invariant-loop-leg : goal.invariant-loop-leg
invariant-loop-leg g l = ReadsSame l.fn.reader l.reader
