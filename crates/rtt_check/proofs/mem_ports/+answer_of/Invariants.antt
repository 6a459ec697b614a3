use Rattle.std.proofs.Common.{length}
use Rattle.rtt_check.proofs.mem_ports.+answer_of.Given as goal

abbrev pub decreases-answer_of : goal.decreases-answer_of
decreases-answer_of l = length l.refused.now
