use Rattle.std.proofs.Common.{◌≡◌, ◌≤◌}
use Rattle.stream_spec.specs.Typed.{last_end}
use Rattle.receiver.proofs.text_ends.last_end.Given as goal

abbrev pub invariant-loop-place : goal.invariant-loop-place
invariant-loop-place l = record {
  value : last_end l.text l.place ≡ last_end l.text l.most;
  within : l.place ≤ l.most;
}

abbrev pub decreases-loop-place : goal.decreases-loop-place
decreases-loop-place l = l.place
