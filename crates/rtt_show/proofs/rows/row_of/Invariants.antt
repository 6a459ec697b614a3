use Rattle.std.proofs.Common.{ℕ, List, length}
use Rattle.rtpdump_io.specs.InMemory.{AreRecords}
use Rattle.rtpdump_io.proofs.Fronts.{Left, Front}
use Rattle.rtt_show.specs.Rows.{IsRow}
use Rattle.rtt_show.proofs.rows.row_of.Given as goal

abbrev pub invariant-loop-at : goal.invariant-loop-at
invariant-loop-at l = record {
  left : Left l.rest l.row.packets;
  row : (all : List (ℕ × List ℕ)) → AreRecords l.fn.records all → Front (IsRow l.row) l.rest all;
}

abbrev pub decreases-loop-at : goal.decreases-loop-at
decreases-loop-at l = length l.rest
