use Rattle.std.proofs.Common.{◌≡◌, ◌+◌, length}
use Rattle.std.specs.Vec.{vec_len}
use Rattle.std.specs.Vec.Iter.{into_iter_items, into_iter_len}
use Rattle.mix_loop.specs.Ports.{EachNew}
use Rattle.mix_loop.proofs.Opening.{Opens, inlet_in}
use Rattle.mix_loop.proofs.ports.ports_over.Given as goal

abbrev pub invariant-loop-inlet : goal.invariant-loop-inlet
invariant-loop-inlet g l = record {
  opens : Opens inlet_in l.fn.inlets.items (into_iter_items l.rest) (into_iter_len l.rest) l.ports;
  each : EachNew l.legs l.ports.items;
  left : into_iter_len l.rest + vec_len l.ports ≡ length l.legs;
}

abbrev pub decreases-loop-inlet : goal.decreases-loop-inlet
decreases-loop-inlet g l = into_iter_len l.rest
