use Rattle.std.proofs.Common.{◌≡◌, ◌≤◌, ◌⊎◌, Some, ℕ, List, length}
use Rattle.std.specs.Prelude.{slice_get}
use Rattle.rtt_io.specs.Counts.{Rose}
use Rattle.leg.specs.declared.inlets.LegInlet.{LegInlet}
use Rattle.leg.specs.Answers.{source_in}
use Rattle.rtt_mix.specs.Opened.{AreCalm, EachSource, LeavesCount}
use Rattle.rtt_mix.proofs.legs.close_legs.Given as goal

abbrev pub invariant-loop-inlet : goal.invariant-loop-inlet
invariant-loop-inlet g l = record {
  same_own : (n : List ℕ) → g.W.World.own_faults l.world n ≡ g.W.World.own_faults l.fn.world n;
  never_fall : (n : List ℕ) → g.W.World.object_faults l.fn.world n ≤ g.W.World.object_faults l.world n;
  contents : g.W.World.tells → (n : List ℕ) → g.W.World.contents l.world n ≡ g.W.World.contents l.fn.world n;
  front : (j : ℕ) (p : LegInlet g.row.W-Src.Denot) → slice_get l.inlets.items j ≡ Some p → slice_get l.fn.inlets.items j ≡ Some p;
  calm : AreCalm g.W.Src.Source.faults l.fn.inlets.items → (n : List ℕ) → g.W.World.object_faults l.world n ≡ g.W.World.object_faults l.fn.world n;
  failed : (j : ℕ) (p : LegInlet g.row.W-Src.Denot) → slice_get l.fn.inlets.items j ≡ Some p
      → (slice_get l.inlets.items j ≡ Some p) ⊎ (Rose 0 (g.W.Src.Source.faults (source_in p))
      → Rose (g.W.World.object_faults l.fn.world (g.W.Src.Source.name (source_in p))) (g.W.World.object_faults l.world (g.W.Src.Source.name (source_in p))));
  left : g.W.World.tells → (n : List ℕ) → EachSource (LeavesCount g.W.Src.Source.faults g.W.Src.Source.name (g.W.World.contents l.fn.world) n) l.fn.inlets.items
      → g.W.World.object_faults l.world n ≡ g.W.World.object_faults l.fn.world n;
}

abbrev pub decreases-loop-inlet : goal.decreases-loop-inlet
decreases-loop-inlet g l = length l.inlets.items
