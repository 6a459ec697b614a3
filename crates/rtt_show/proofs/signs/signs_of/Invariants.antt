use Rattle.std.proofs.Common.{ℕ, ◌≤◌, List, length}
use Rattle.rtpdump_io.specs.InMemory.{AreRecords}
use Rattle.rtt_show.specs.Signs.{AreSigns}
use Rattle.rtpdump_io.proofs.Fronts.{Left, Front}
use Rattle.rtt_show.proofs.signs.signs_of.Given as goal

abbrev pub invariant-loop-octets : goal.invariant-loop-octets
invariant-loop-octets l = record {
  left : Left l.rest l.signs.packets;
  filled : l.signs.filled ≤ l.signs.packets;
  signs : (all : List (ℕ × List ℕ)) → AreRecords l.fn.records all → Front (AreSigns l.signs) l.rest all;
}

abbrev pub decreases-loop-octets : goal.decreases-loop-octets
decreases-loop-octets l = length l.rest
