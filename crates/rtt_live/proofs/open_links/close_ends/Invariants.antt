use Rattle.std.proofs.Common.{◌≡◌, ◌≤◌, ◌⊎◌, Some, ℕ, true, length}
use Rattle.std.specs.Prelude.{slice_get}
use Rattle.rtt_io.specs.Counts.{Rose}
use Rattle.rtt_live.specs.Opened.{AreCalm, AreEmptyAt, GivesNothing, HaveOwnPorts}
use Rattle.rtt_live.proofs.open_links.close_ends.Given as goal

abbrev pub invariant-loop-end : goal.invariant-loop-end
invariant-loop-end g l = record {
  same_own : (p : ℕ) → g.W.Links.own_faults l.world p ≡ g.W.Links.own_faults l.fn.world p;
  pauses : g.W.Links.pauses l.world ≡ g.W.Links.pauses l.fn.world;
  moment : g.W.Links.moment l.world ≡ g.W.Links.moment l.fn.world;
  never_fall : (p : ℕ) → g.W.Links.object_faults l.fn.world p ≤ g.W.Links.object_faults l.world p;
  front : (j : ℕ) (x : g.row.W-Out.Denot) → slice_get l.ends.items j ≡ Some x → slice_get l.fn.ends.items j ≡ Some x;
  calm : AreCalm g.W.Out.LinkOut.faults l.fn.ends.items → (p : ℕ) → g.W.Links.object_faults l.world p ≡ g.W.Links.object_faults l.fn.world p;
  failed : (j : ℕ) (x : g.row.W-Out.Denot) → slice_get l.fn.ends.items j ≡ Some x
      → (slice_get l.ends.items j ≡ Some x) ⊎ (Rose 0 (g.W.Out.LinkOut.faults x) → Rose (g.W.Links.object_faults l.fn.world (g.W.Out.LinkOut.port x)) (g.W.Links.object_faults l.world (g.W.Out.LinkOut.port x)));
  opened : g.W.Links.tells → (p : ℕ) → g.W.Links.opened l.world p ≡ g.W.Links.opened l.fn.world p;
  leads : g.W.Links.tells → g.W.Links.leads l.world ≡ g.W.Links.leads l.fn.world;
  other : g.W.Links.tells → (p : ℕ) → g.W.Links.taken_at l.world p ≡ g.W.Links.taken_at l.fn.world p;
  stored : g.W.Links.tells → HaveOwnPorts (g.W.Out.LinkOut.port) l.fn.ends.items → (j : ℕ) (x : g.row.W-Out.Denot) → slice_get l.fn.ends.items j ≡ Some x
      → (slice_get l.ends.items j ≡ Some x) ⊎ (g.W.Links.opened l.fn.world (g.W.Out.LinkOut.port x) ≡ true → g.W.Links.given_at l.world (g.W.Out.LinkOut.port x) ≡ g.W.Out.LinkOut.given x);
  nothing : g.W.Links.tells → AreEmptyAt g.W.Out.LinkOut.given g.W.Out.LinkOut.port (g.W.Links.opened l.fn.world) l.fn.ends.items → GivesNothing (g.W.Links.given_at l.fn.world) (g.W.Links.given_at l.world);
}

abbrev pub decreases-loop-end : goal.decreases-loop-end
decreases-loop-end g l = length l.ends.items
