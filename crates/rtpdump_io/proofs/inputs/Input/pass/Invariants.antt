use Rattle.std.proofs.Common.{◌≡◌, ◌≤◌, ◌-◌}
use Rattle.rtpdump_io.specs.Input.{unread, Passes}
use Rattle.rtpdump_io.proofs.inputs.Input.pass.Given as goal

abbrev pub invariant-loop-done : goal.invariant-loop-done
invariant-loop-done g l = record {
  within : l.done ≤ l.count;
  never_falls : g.S.Source.faults l.initial.self.source ≤ g.S.Source.faults l.self.source;
  calm : g.S.Source.faults l.self.source ≡ g.S.Source.faults l.initial.self.source;
  same_name : g.S.Source.name l.self.source ≡ g.S.Source.name l.initial.self.source;
  passes : g.S.Source.tells → Passes l.done (unread g.S.Source.left l.initial.self) (unread g.S.Source.left l.self);
}

abbrev pub decreases-loop-done : goal.decreases-loop-done
decreases-loop-done g l = l.count - l.done
