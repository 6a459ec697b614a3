use Rattle.std.proofs.Common.{◌≡◌, length}
use Rattle.std.specs.Str.Lines.{lines}
use Rattle.report_spec.specs.Checking.{line_at}
use Rattle.rtt_check.proofs.lines.line_at.Given as goal

abbrev pub invariant-loop-line : goal.invariant-loop-line
invariant-loop-line l = line_at l.left (lines l.rest) ≡ line_at l.number (lines l.octets)

abbrev pub decreases-loop-line : goal.decreases-loop-line
decreases-loop-line l = length l.rest
