use Rattle.std.proofs.Common.{◌≡◌, ◌≤◌, ◌⊎◌, Some, ℕ, true, length}
use Rattle.std.specs.Prelude.{slice_get}
use Rattle.rtt_io.specs.Counts.{Rose}
use Rattle.live_leg.specs.LinkLegs.{LinkLeg}
use Rattle.rtt_live.specs.Opened.{AreCalm, HaveOwnPorts}
use Rattle.rtt_live.proofs.open_links.close_legs.Given as goal

abbrev pub invariant-loop-leg : goal.invariant-loop-leg
invariant-loop-leg g l = record {
  same_own : (p : ℕ) → g.W.Links.own_faults l.world p ≡ g.W.Links.own_faults l.fn.world p;
  pauses : g.W.Links.pauses l.world ≡ g.W.Links.pauses l.fn.world;
  moment : g.W.Links.moment l.world ≡ g.W.Links.moment l.fn.world;
  never_fall : (p : ℕ) → g.W.Links.object_faults l.fn.world p ≤ g.W.Links.object_faults l.world p;
  front : (j : ℕ) (x : LinkLeg g.row.W-In.Denot) → slice_get l.legs.items j ≡ Some x → slice_get l.fn.legs.items j ≡ Some x;
  calm : AreCalm (λ leg. g.W.In.LinkIn.faults leg.arrivals.link) l.fn.legs.items → (p : ℕ) → g.W.Links.object_faults l.world p ≡ g.W.Links.object_faults l.fn.world p;
  failed : (j : ℕ) (x : LinkLeg g.row.W-In.Denot) → slice_get l.fn.legs.items j ≡ Some x
      → (slice_get l.legs.items j ≡ Some x) ⊎ (Rose 0 (g.W.In.LinkIn.faults x.arrivals.link) → Rose (g.W.Links.object_faults l.fn.world (g.W.In.LinkIn.port x.arrivals.link)) (g.W.Links.object_faults l.world (g.W.In.LinkIn.port x.arrivals.link)));
  opened : g.W.Links.tells → (p : ℕ) → g.W.Links.opened l.world p ≡ g.W.Links.opened l.fn.world p;
  leads : g.W.Links.tells → g.W.Links.leads l.world ≡ g.W.Links.leads l.fn.world;
  other : g.W.Links.tells → (p : ℕ) → g.W.Links.given_at l.world p ≡ g.W.Links.given_at l.fn.world p;
  stored : g.W.Links.tells → HaveOwnPorts (λ leg. g.W.In.LinkIn.port leg.arrivals.link) l.fn.legs.items → (j : ℕ) (x : LinkLeg g.row.W-In.Denot) → slice_get l.fn.legs.items j ≡ Some x
      → (slice_get l.legs.items j ≡ Some x) ⊎ (g.W.Links.opened l.fn.world (g.W.In.LinkIn.port x.arrivals.link) ≡ true → g.W.Links.taken_at l.world (g.W.In.LinkIn.port x.arrivals.link) ≡ g.W.In.LinkIn.taken x.arrivals.link);
}

abbrev pub decreases-loop-leg : goal.decreases-loop-leg
decreases-loop-leg g l = length l.legs.items
