use Rattle.std.proofs.Common.{◌≡◌, ◌+◌}
use Rattle.std.specs.Vec.{vec_len}
use Rattle.std.specs.Vec.Iter.{into_iter_items, into_iter_len}
use Rattle.mix_loop.proofs.Opening.{Opens}
use Rattle.mix_loop.specs.Opening.{EachBegun}
use Rattle.mix_loop.proofs.LiveOpening.{inlet_in}
use Rattle.mix_loop.proofs.live_port_lists.ports_over.Given as goal

abbrev pub invariant-loop-inlet : goal.invariant-loop-inlet
invariant-loop-inlet g l = record {
  opens : Opens inlet_in l.fn.inlets.items (into_iter_items l.rest) (into_iter_len l.rest) l.ports;
  each : EachBegun l.ports.items;
  left : into_iter_len l.rest + vec_len l.ports ≡ vec_len l.fn.inlets;
}

abbrev pub decreases-loop-inlet : goal.decreases-loop-inlet
decreases-loop-inlet g l = into_iter_len l.rest
