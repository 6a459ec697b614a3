use Rattle.std.proofs.Common.{◌≡◌, ◌++◌, length}
use Rattle.rtt_live.proofs.reports.ViewParts.append.Given as goal

abbrev pub invariant-loop-rest : goal.invariant-loop-rest
invariant-loop-rest l = l.self ++ l.rest ≡ l.fn.self ++ l.octets

abbrev pub decreases-loop-rest : goal.decreases-loop-rest
decreases-loop-rest l = length l.rest
