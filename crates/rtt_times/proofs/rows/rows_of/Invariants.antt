use Rattle.std.proofs.Common.{take}
use Rattle.rtt_times.specs.Rows.{AreRows}
use Rattle.rtt_times.proofs.rows.rows_of.Given as goal

abbrev pub invariant-loop-index : goal.invariant-loop-index
invariant-loop-index l = AreRows (take l.index l.fn.streams) l.rows.items
