use Rattle.std.proofs.Common.{length}
use Rattle.rtt_top.proofs.check.+look_inputs.Given as goal

abbrev pub decreases-look_inputs : goal.decreases-look_inputs
decreases-look_inputs g l = length l.legs.now
