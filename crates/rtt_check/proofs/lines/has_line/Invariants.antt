use Rattle.std.proofs.Common.{◌≡◌, length}
use Rattle.std.specs.List.{list_any}
use Rattle.std.specs.Str.Lines.{lines}
use Rattle.report_spec.specs.Forms.{said}
use Rattle.rtt_check.specs.Lines.{tells}
use Rattle.rtt_check.proofs.lines.has_line.Given as goal

abbrev pub invariant-loop-line : goal.invariant-loop-line
invariant-loop-line l = list_any (λ line. tells l.content (said line)) (lines l.rest) ≡ list_any (λ line. tells l.content (said line)) (lines l.octets)

abbrev pub decreases-loop-line : goal.decreases-loop-line
decreases-loop-line l = length l.rest
