use Rattle.std.proofs.Common.{◌≡◌, ◌+◌, ◌≤◌, ℕ, List, length, drop}
use Rattle.std.specs.Vec.{vec_len, vec_capacity}
use Rattle.std.specs.Vec.Iter.{into_iter_items, into_iter_len}
use Rattle.rtt_attend.specs.Opened.{AreHeard}
use Rattle.rtt_attend.proofs.input_notes.hear_inputs.Given as goal

abbrev pub invariant-loop-source : goal.invariant-loop-source
invariant-loop-source g l = record {
  rest : into_iter_items l.rest ≡ drop (length l.all.items) l.fn.sources.items;
  whole : length (into_iter_items l.rest) ≡ into_iter_len l.rest;
  count : length l.all.items + into_iter_len l.rest ≡ length l.legs;
  len : vec_len l.all ≡ length l.all.items;
  room : length l.legs ≤ vec_capacity l.all;
  heard : g.W.World.tells → AreHeard l.limit (g.W.World.contents l.fn.world) l.legs l.all.items;
  same_own : (n : List ℕ) → g.W.World.own_faults l.world n ≡ g.W.World.own_faults l.fn.world n;
  same_objects : (n : List ℕ) → g.W.World.object_faults l.world n ≡ g.W.World.object_faults l.fn.world n;
  same_contents : g.W.World.tells → (n : List ℕ) → g.W.World.contents l.world n ≡ g.W.World.contents l.fn.world n;
}

abbrev pub decreases-loop-source : goal.decreases-loop-source
decreases-loop-source g l = into_iter_len l.rest
