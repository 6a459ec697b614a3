use Rattle.std.proofs.Common.{◌≤◌}
use Rattle.mixer.proofs.tests.count_taken.Given as goal

abbrev pub invariant-loop : goal.invariant-loop
invariant-loop g l = l.count ≤ l.counter
