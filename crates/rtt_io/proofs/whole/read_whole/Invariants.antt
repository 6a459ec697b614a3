use Rattle.std.proofs.Common.{◌≡◌, ◌≤◌, ◌-◌, ◌+◌, ◌++◌, length}
use Rattle.rtt_io.proofs.whole.read_whole.Given as goal

abbrev pub invariant-loop-block : goal.invariant-loop-block
invariant-loop-block g l = record {
  given : g.S.Source.tells → g.S.Source.left l.initial.source ≡ l.octets ++ g.S.Source.left l.source;
  calm : g.S.Source.faults l.source ≡ g.S.Source.faults l.initial.source;
  same_name : g.S.Source.name l.source ≡ g.S.Source.name l.initial.source;
  bounded : length l.octets ≤ l.most + 4096;
}

abbrev pub decreases-loop-block : goal.decreases-loop-block
decreases-loop-block g l = l.most + 1 - length l.octets
