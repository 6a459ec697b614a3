use Rattle.std.proofs.Common.{◌≡◌, ◌≤◌, ◌-◌, ◌+◌, ◌++◌, take, length}
use Rattle.rtpdump_io.specs.Input.{unread, Passes}
use Rattle.rtpdump_io.proofs.inputs.Input.copy_parts.Given as goal

abbrev pub invariant-loop-done : goal.invariant-loop-done
invariant-loop-done g l = record {
  within : l.done ≤ l.count;
  size : length l.out ≡ length l.initial.out + l.done;
  never_falls : g.S.Source.faults l.initial.self.source ≤ g.S.Source.faults l.self.source;
  calm : g.S.Source.faults l.self.source ≡ g.S.Source.faults l.initial.self.source;
  same_name : g.S.Source.name l.self.source ≡ g.S.Source.name l.initial.self.source;
  passes : g.S.Source.tells → Passes l.done (unread g.S.Source.left l.initial.self) (unread g.S.Source.left l.self);
  copied : g.S.Source.tells → l.out ≡ l.initial.out ++ take l.done (unread g.S.Source.left l.initial.self);
}

abbrev pub decreases-loop-done : goal.decreases-loop-done
decreases-loop-done g l = l.count - l.done
