use Rattle.std.proofs.Common.{drop}
use Rattle.rtt_times.proofs.Missing.{LateSoFar}
use Rattle.rtt_times.proofs.numbers.add_late.Given as goal

abbrev pub invariant-loop-index : goal.invariant-loop-index
invariant-loop-index l = LateSoFar l.fn.ssrc l.fn.late (drop l.index l.fn.late) l.fn.lines l.lines
