use Rattle.std.proofs.Common.{length}
use Rattle.rtt_program.proofs.plays.+plan.Given as goal

abbrev pub decreases-plan : goal.decreases-plan
decreases-plan l = length l.comings.now
