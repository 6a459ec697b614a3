use Rattle.std.proofs.Common.{length}
use Rattle.rtt_check.proofs.ports.+links_told.Given as goal

abbrev pub decreases-links_told : goal.decreases-links_told
decreases-links_told g l = length l.legs.now
