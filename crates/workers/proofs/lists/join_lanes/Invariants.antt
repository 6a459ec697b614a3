use Rattle.std.specs.Vec.Iter.{into_iter_items, into_iter_len}
use Rattle.workers.specs.Lanes.{ComesBack}
use Rattle.workers.proofs.Matching.{Into}
use Rattle.workers.proofs.lists.join_lanes.Given as goal

abbrev pub invariant-loop-lane : goal.invariant-loop-lane
invariant-loop-lane g l = Into (ComesBack g.F.Producer.stands) l.fn.lanes.items (into_iter_items l.rest) (into_iter_len l.rest) l.back

abbrev pub decreases-loop-lane : goal.decreases-loop-lane
decreases-loop-lane g l = into_iter_len l.rest
