use Rattle.rtt_times.proofs.Rowing.{RowsSoFar}
use Rattle.rtt_times.proofs.rows.add_rows.Given as goal

abbrev pub invariant-loop-index : goal.invariant-loop-index
invariant-loop-index l = RowsSoFar l.fn.payload_types l.fn.streams l.index l.fn.lines l.lines
