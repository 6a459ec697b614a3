use Rattle.std.proofs.Common.{length}
use Rattle.cascade.proofs.trunks.+odd_line.Given as goal

abbrev pub decreases-odd_line : goal.decreases-odd_line
decreases-odd_line l = length l.legs.now
