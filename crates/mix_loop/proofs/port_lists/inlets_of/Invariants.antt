use Rattle.std.proofs.Common.{◌≡◌, ◌++◌}
use Rattle.std.specs.Prelude.{map}
use Rattle.std.specs.Vec.Iter.{into_iter_items, into_iter_len}
use Rattle.workers.proofs.Matching.{Fits}
use Rattle.mix_loop.proofs.port_lists.inlets_of.Given as goal

abbrev pub invariant-loop-port : goal.invariant-loop-port
invariant-loop-port g l = record {
  are : l.inlets.items ++ map g.P.HasInlet.inlet (into_iter_items l.rest) ≡ map g.P.HasInlet.inlet l.fn.ports.items;
  fits : Fits (into_iter_items l.rest) (into_iter_len l.rest) l.inlets;
}

abbrev pub decreases-loop-port : goal.decreases-loop-port
decreases-loop-port g l = into_iter_len l.rest
