use Rattle.std.proofs.Common.{◌≡◌, ◌++◌, drop}
use Rattle.rtt_live.specs.Tallies.{tally_lines}
use Rattle.rtt_live.proofs.tallies.append_counts.Given as goal

-- what is printed so far and what is still to come is all
abbrev pub invariant-loop-leg : goal.invariant-loop-leg
invariant-loop-leg l = l.views ++ tally_lines (drop l.leg l.legs) (drop l.leg l.tallies) ≡ l.fn.views ++ tally_lines l.legs l.tallies
