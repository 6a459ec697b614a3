use Rattle.std.proofs.Common.{◌≡◌, ◌≤◌, ◌-◌, ◌++◌, take, length}
use Rattle.rtpdump_io.specs.Input.{unread}
use Rattle.rtpdump_io.proofs.inputs.Input.read_parts.Given as goal

abbrev pub invariant-loop-done : goal.invariant-loop-done
invariant-loop-done g l = record {
  within : l.done ≤ length l.buf;
  size : length l.buf ≡ length l.initial.buf;
  never_falls : g.S.Source.faults l.initial.self.source ≤ g.S.Source.faults l.self.source;
  calm : g.S.Source.faults l.self.source ≡ g.S.Source.faults l.initial.self.source;
  same_name : g.S.Source.name l.self.source ≡ g.S.Source.name l.initial.self.source;
  given : g.S.Source.tells → unread g.S.Source.left l.initial.self ≡ take l.done l.buf ++ unread g.S.Source.left l.self;
}

abbrev pub decreases-loop-done : goal.decreases-loop-done
decreases-loop-done g l = length l.buf - l.done
