use Rattle.std.proofs.Common.{◌≡◌, ◌≤◌, ◌+◌, ◌-◌, length}
use Rattle.wire_spec.specs.Dump.{past_line}
use Rattle.rtpdump_io.specs.Input.{unread}
use Rattle.rtpdump_io.proofs.inputs.Input.past_line.Given as goal

abbrev pub invariant-loop-place : goal.invariant-loop-place
invariant-loop-place g l = record {
  never_falls : g.S.Source.faults l.initial.self.source ≤ g.S.Source.faults l.self.source;
  calm : g.S.Source.faults l.self.source ≡ g.S.Source.faults l.initial.self.source;
  same_name : g.S.Source.name l.self.source ≡ g.S.Source.name l.initial.self.source;
  line : g.S.Source.tells → past_line l.most (unread g.S.Source.left l.initial.self) ≡ past_line (l.most - l.place) (unread g.S.Source.left l.self);
  number : g.S.Source.tells → length (unread g.S.Source.left l.initial.self) ≡ l.place + length (unread g.S.Source.left l.self);
}
