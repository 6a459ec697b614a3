use Rattle.sent_log.specs.Pens.{IsPenOf}
use Rattle.sent_log.specs.States.{OfTerminal}
use Rattle.sent_log.proofs.tests.expect.Given as goal

abbrev pub invariant-loop-number : goal.invariant-loop-number
invariant-loop-number g l = OfTerminal l.log l.terminal (λ x. IsPenOf x l.number l.made)
