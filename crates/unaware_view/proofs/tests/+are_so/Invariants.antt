use Rattle.std.proofs.Common.{length}
use Rattle.unaware_view.proofs.tests.+are_so.Given as goal

abbrev pub decreases-are_so : goal.decreases-are_so
decreases-are_so l = length l.steps.now
