use Rattle.std.proofs.Common.{◌≡◌, ◌≤◌, ℕ, length}
use Rattle.std.specs.Vec.{vec_len, vec_capacity}
use Rattle.file_spec.specs.Conferences.{meaning_of}
use Rattle.rtt_live.specs.Opened.{LeadsFirst, OpenEnds, OpenLegs}
use Rattle.rtt_live.proofs.open_links.open_links.Given as goal

abbrev pub invariant-loop-own : goal.invariant-loop-own
invariant-loop-own g l = record {
  legs : length l.legs.items ≡ l.own;
  ends : length l.ends.items ≡ l.own;
  legs_len : vec_len l.legs ≡ l.own;
  ends_len : vec_len l.ends ≡ l.own;
  legs_room : length l.fn.conference.legs ≤ vec_capacity l.legs;
  ends_room : length l.fn.conference.legs ≤ vec_capacity l.ends;
  open_legs : OpenLegs g.W.In.LinkIn g.W.Links.tells (g.W.Links.opened l.world) (meaning_of l.fn.conference) l.legs.items;
  open_ends : OpenEnds g.W.Out.LinkOut g.W.Links.tells (meaning_of l.fn.conference) l.ends.items;
  same_own : (p : ℕ) → g.W.Links.own_faults l.world p ≡ g.W.Links.own_faults l.fn.world p;
  leads : g.W.Links.tells → LeadsFirst l.own (meaning_of l.fn.conference) (g.W.Links.leads l.fn.world) (g.W.Links.leads l.world);
  pauses : g.W.Links.pauses l.world ≡ g.W.Links.pauses l.fn.world;
  moment : g.W.Links.moment l.world ≡ g.W.Links.moment l.fn.world;
  same_objects : (p : ℕ) → g.W.Links.object_faults l.world p ≡ g.W.Links.object_faults l.fn.world p;
  same_given : g.W.Links.tells → (p : ℕ) → g.W.Links.given_at l.world p ≡ g.W.Links.given_at l.fn.world p;
}
