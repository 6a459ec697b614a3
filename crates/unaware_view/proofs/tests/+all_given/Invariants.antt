use Rattle.std.proofs.Common.{length}
use Rattle.unaware_view.proofs.tests.+all_given.Given as goal

abbrev pub decreases-all_given : goal.decreases-all_given
decreases-all_given l = length l.cases.now
