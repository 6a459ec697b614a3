use Rattle.std.proofs.Common.{length}
use Rattle.rtt_program.proofs.plays.+append_all.Given as goal

abbrev pub decreases-append_all : goal.decreases-append_all
decreases-append_all l = length l.pieces.now
