use Rattle.std.proofs.Common.{length}
use Rattle.rtt_program.proofs.plays.+left.Given as goal

abbrev pub decreases-left : goal.decreases-left
decreases-left g l = length l.cases.now
