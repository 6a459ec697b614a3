use Rattle.std.proofs.Common.{◌≡◌, ◌≤◌, ◌++◌, take}
use Rattle.rtpdump_io.specs.Input.{unread}
use Rattle.rtpdump_io.proofs.inputs.Input.begins_with.Given as goal

abbrev pub invariant-loop-place : goal.invariant-loop-place
invariant-loop-place g l = record {
  never_falls : g.S.Source.faults l.initial.self.source ≤ g.S.Source.faults l.self.source;
  calm : g.S.Source.faults l.self.source ≡ g.S.Source.faults l.initial.self.source;
  same_name : g.S.Source.name l.self.source ≡ g.S.Source.name l.initial.self.source;
  begins : g.S.Source.tells → unread g.S.Source.left l.initial.self ≡ take l.place l.expected ++ unread g.S.Source.left l.self;
}
