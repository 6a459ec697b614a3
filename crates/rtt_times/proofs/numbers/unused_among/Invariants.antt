use Rattle.std.proofs.Common.{◌≡◌, ◌++◌, drop}
use Rattle.rtt_times.specs.Numbers.{late_among}
use Rattle.rtt_times.proofs.numbers.unused_among.Given as goal

abbrev pub invariant-loop-index : goal.invariant-loop-index
invariant-loop-index l = l.late.items ++ late_among l.fn.used (drop l.index l.fn.came) ≡ late_among l.fn.used l.fn.came
