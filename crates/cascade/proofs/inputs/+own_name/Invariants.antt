use Rattle.std.proofs.Common.{length}
use Rattle.cascade.proofs.inputs.+own_name.Given as goal

abbrev pub decreases-own_name : goal.decreases-own_name
decreases-own_name l = length l.legs.now
