use Rattle.std.proofs.Common.{◌≡◌}
use Rattle.sent_log.proofs.Trials.{log_with}
use Rattle.sent_log.proofs.file_tests.log_of.Given as goal

abbrev pub invariant-loop-number : goal.invariant-loop-number
invariant-loop-number l = l.log ≡ log_with l.fn.stream l.number
