use Rattle.std.proofs.Common.{◌≡◌, ◌+◌, ◌++◌, length, map, reverse, drop}
use Rattle.recording_views.proofs.list_lines.write_text.Given as goal

abbrev pub invariant-loop-octet : goal.invariant-loop-octet
invariant-loop-octet l = record {
  can : (goal.iterator-loop-octet).can_next l.octet-iterator;
  ends : (goal.iterator-loop-octet).is_finite l.octet-iterator;
  start : l.start + length l.yielded ≡ l.initial.start;
  within : length l.octets ≡ length l.initial.octets;
  written : drop l.start l.octets ≡ reverse (map (λ b. b.now) l.yielded) ++ drop l.initial.start l.initial.octets;
}
