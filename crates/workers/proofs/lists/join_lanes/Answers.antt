use Rattle.std.proofs.Common.{rules}
use Rattle.std.specs.Vec.Iter.{into_iter_items, into_iter_len}
use Rattle.workers.specs.Lanes.{ComesBack}
use Rattle.workers.proofs.Matching.{into_all, into_first, into_next}
use Rattle.workers.proofs.lists.join_lanes.Goals as goal

pub loop-lane-init : goal.loop-lane-init
loop-lane-init g c = into_first (ComesBack g.F.Producer.stands) c.args.lanes _ _ c.args.back c.into_iter-rest.ensures.rest c.into_iter-rest.ensures.len c.requires.none_back c.requires.back

pub loop-lane-preserved : goal.loop-lane-preserved
loop-lane-preserved g c =
    into_next (ComesBack g.F.Producer.stands) c.args.lanes.items _ _ _ _ c.in-Some.lane c.close-gives.result c.loop-lane.back c.push_reserved.new.self c.loop-lane.invariant c.in-Some.ensures.cases c.close-gives.ensures c.push_reserved.ensures.items c.push_reserved.ensures.len c.push_reserved.ensures.capacity

pub returns : goal.returns
returns g c = into_all (ComesBack g.F.Producer.stands) c.args.lanes.items (into_iter_items c.loop-lane.rest) (into_iter_len c.loop-lane.rest) c.loop-lane.back c.loop-lane.invariant (search rules)
