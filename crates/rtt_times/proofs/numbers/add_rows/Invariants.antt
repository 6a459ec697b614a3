use Rattle.std.proofs.Common.{drop}
use Rattle.rtt_times.proofs.Missing.{RowsSoFar}
use Rattle.rtt_times.proofs.numbers.add_rows.Given as goal

abbrev pub invariant-loop-index : goal.invariant-loop-index
invariant-loop-index l = RowsSoFar l.fn.at l.fn.ssrc l.fn.low l.fn.high l.fn.late (drop l.index l.fn.late) l.from l.fn.lines l.lines
