use Rattle.std.proofs.Common.{◌≡◌, ◌≤◌, ◌⊎◌, Some, ℕ, List, length}
use Rattle.std.specs.Prelude.{slice_get}
use Rattle.leg.specs.declared.inlets.LegInlet.{LegInlet}
use Rattle.leg.specs.Answers.{source_in}
use Rattle.cascade.specs.declared.trunk_sources.TrunkSource.{TrunkSource}
use Rattle.cascade.specs.TrunkSources.{faults_in, name_in}
use Rattle.cascade.specs.Feeding.{AreCalm, EachSource, LeavesCount, RisesFor}
use Rattle.cascade.proofs.feeds.close_legs.Given as goal

abbrev pub invariant-loop-inlet : goal.invariant-loop-inlet
invariant-loop-inlet g l = record {
  same_own : (n : List ℕ) → g.W.World.own_faults l.world n ≡ g.W.World.own_faults l.fn.world n;
  never_fall : (n : List ℕ) → g.W.World.object_faults l.fn.world n ≤ g.W.World.object_faults l.world n;
  contents : g.W.World.tells → (n : List ℕ) → g.W.World.contents l.world n ≡ g.W.World.contents l.fn.world n;
  front : (j : ℕ) (p : LegInlet (TrunkSource g.row.W-Src.Denot)) → slice_get l.inlets.items j ≡ Some p → slice_get l.fn.inlets.items j ≡ Some p;
  calm : AreCalm (faults_in g.W.Src.Source.faults) l.fn.inlets.items → (n : List ℕ) → g.W.World.object_faults l.world n ≡ g.W.World.object_faults l.fn.world n;
  failed : (j : ℕ) (p : LegInlet (TrunkSource g.row.W-Src.Denot)) → slice_get l.fn.inlets.items j ≡ Some p
      → (slice_get l.inlets.items j ≡ Some p) ⊎ RisesFor (faults_in g.W.Src.Source.faults) (name_in g.W.Src.Source.name) (g.W.World.object_faults l.fn.world) (g.W.World.object_faults l.world) (source_in p);
  left : g.W.World.tells → (n : List ℕ) → EachSource (LeavesCount (faults_in g.W.Src.Source.faults) (name_in g.W.Src.Source.name) (g.W.World.contents l.fn.world) n) l.fn.inlets.items
      → g.W.World.object_faults l.world n ≡ g.W.World.object_faults l.fn.world n;
}

abbrev pub decreases-loop-inlet : goal.decreases-loop-inlet
decreases-loop-inlet g l = length l.inlets.items
