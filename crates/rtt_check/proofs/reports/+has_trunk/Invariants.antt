use Rattle.std.proofs.Common.{length}
use Rattle.rtt_check.proofs.reports.+has_trunk.Given as goal

abbrev pub decreases-has_trunk : goal.decreases-has_trunk
decreases-has_trunk l = length l.legs.now
