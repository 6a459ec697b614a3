use Rattle.std.proofs.Common.{◌-◌, ◌≤◌, drop}
use Rattle.rtt_times.proofs.Missing.{GapsSoFar}
use Rattle.rtt_times.proofs.numbers.add_gaps.Given as goal

abbrev pub invariant-loop-index : goal.invariant-loop-index
invariant-loop-index l = (1 ≤ l.index) × GapsSoFar l.fn.ssrc l.fn.late l.fn.used (drop (l.index - 1) l.fn.used) l.fn.lines l.lines
