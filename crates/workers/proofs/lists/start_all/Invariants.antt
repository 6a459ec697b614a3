use Rattle.std.specs.Vec.Iter.{into_iter_items, into_iter_len}
use Rattle.workers.proofs.Beginning.{AreStarting}
use Rattle.workers.proofs.lists.start_all.Given as goal

abbrev pub invariant-loop-leg : goal.invariant-loop-leg
invariant-loop-leg g l = AreStarting g.F.Producer.stands l.fn.gives.items (into_iter_items l.rest) (into_iter_len l.rest) l.ends l.lanes

abbrev pub decreases-loop-leg : goal.decreases-loop-leg
decreases-loop-leg g l = into_iter_len l.rest
