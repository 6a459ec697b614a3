use Rattle.std.proofs.Common.{◌≡◌, ◌≤◌, ◌-◌, ◌++◌, length, take}
use Rattle.rtt_show.proofs.heads.HeadReader.look.Given as goal

abbrev pub invariant-loop-self : goal.invariant-loop-self
invariant-loop-self g l = record {
  never_falls : g.S.Source.faults l.fn.self.source ≤ g.S.Source.faults l.self.source;
  calm : g.S.Source.faults l.self.source ≡ g.S.Source.faults l.fn.self.source;
  same_name : g.S.Source.name l.self.source ≡ g.S.Source.name l.fn.self.source;
  given : l.self.given ≡ l.fn.self.given;
  room : length l.self.front ≡ 144;
  looks : g.S.Source.tells → g.S.Source.left l.fn.self.source ≡ take l.self.size l.self.front ++ g.S.Source.left l.self.source;
}

abbrev pub decreases-loop-self : goal.decreases-loop-self
decreases-loop-self g l = 144 - l.self.size
