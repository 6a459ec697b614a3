use Rattle.std.proofs.Common.{◌≡◌, length}
use Rattle.report_spec.specs.Forms.{begins_with_moment}
use Rattle.rtt_check.proofs.lines.begins_with_moment.Given as goal

abbrev pub invariant-loop-rest : goal.invariant-loop-rest
invariant-loop-rest l = begins_with_moment l.rest ≡ begins_with_moment l.line

abbrev pub decreases-loop-rest : goal.decreases-loop-rest
decreases-loop-rest l = length l.rest
