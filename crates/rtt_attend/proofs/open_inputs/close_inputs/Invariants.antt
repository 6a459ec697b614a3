use Rattle.std.proofs.Common.{◌≡◌, ℕ, List, length}
use Rattle.std.specs.Vec.Iter.{into_iter_items, into_iter_len}
use Rattle.rtt_attend.specs.Opened.{AreFresh}
use Rattle.rtt_attend.proofs.open_inputs.close_inputs.Given as goal

abbrev pub invariant-loop-source : goal.invariant-loop-source
invariant-loop-source g l = record {
  fresh : AreFresh g.W.Src.Source.faults (into_iter_items l.rest);
  whole : length (into_iter_items l.rest) ≡ into_iter_len l.rest;
  same_own : (n : List ℕ) → g.W.World.own_faults l.world n ≡ g.W.World.own_faults l.fn.world n;
  same_objects : (n : List ℕ) → g.W.World.object_faults l.world n ≡ g.W.World.object_faults l.fn.world n;
  same_contents : g.W.World.tells → (n : List ℕ) → g.W.World.contents l.world n ≡ g.W.World.contents l.fn.world n;
}

abbrev pub decreases-loop-source : goal.decreases-loop-source
decreases-loop-source g l = into_iter_len l.rest
