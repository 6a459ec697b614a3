use Rattle.std.proofs.Common.{◌≡◌, ◌<◌, ◌≤◌, ℕ, List, length}
use Rattle.std.specs.Vec.{vec_len, vec_capacity}
use Rattle.rtt_mix.specs.Opened.{AllOpened, AreCalm}
use Rattle.rtt_mix.proofs.legs.open_legs.Given as goal

abbrev pub invariant-loop-index : goal.invariant-loop-index
invariant-loop-index g l = record {
  count : length l.inlets.items ≡ l.index;
  len : vec_len l.inlets ≡ l.index;
  room : length l.legs ≤ vec_capacity l.inlets;
  opened : AllOpened g.W.World.tells g.W.Src.Source.left g.W.Src.Source.faults g.W.Src.Source.name (g.W.World.contents l.fn.world) l.hearing l.limit l.legs l.inlets.items;
  shown : g.W.World.tells → 0 < l.index → g.W.Src.Source.tells;
  calm : AreCalm g.W.Src.Source.faults l.inlets.items;
  same_own : (n : List ℕ) → g.W.World.own_faults l.world n ≡ g.W.World.own_faults l.fn.world n;
  same_objects : (n : List ℕ) → g.W.World.object_faults l.world n ≡ g.W.World.object_faults l.fn.world n;
  contents : g.W.World.tells → (n : List ℕ) → g.W.World.contents l.world n ≡ g.W.World.contents l.fn.world n;
}
