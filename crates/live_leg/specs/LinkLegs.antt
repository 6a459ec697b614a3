-- Legs over links, and what they give.
use Rattle.std.specs.Prelude.{Bool, true, false, List}
use Rattle.std.specs.List.{list_any}
use Rattle.link_io.specs.declared.ends.LinkIn as links
use Rattle.live_leg.specs.declared.arrivals.Arrivals as arrivals
use Rattle.live_leg.specs.declared.items.LegItem.{LegItem}
use Rattle.live_leg.specs.declared.legs.Leg.{Leg}
use Rattle.live_leg.specs.declared.paced_links.LinkStop.{LinkStop}
use Rattle.live_leg.specs.declared.paced_links.LinkStop.TheVariants.{Failed}
use Rattle.live_leg.specs.declared.paced_links.PacedLink.{PacedLink}
use Rattle.live_leg.specs.Items as items
use Rattle.live_leg.specs.Linking.{LinkCame, LinkFailed}
use Rattle.live_leg.specs.Stands as stands

abbrev pub LinkLeg : Type 0 → Type 0
LinkLeg L = Leg (PacedLink L)

abbrev pub LinkItem : Type 0
LinkItem = LegItem LinkStop

abbrev pub Item : Type 0
Item = items.Item LinkStop

-- a link as where packets come from
abbrev pub link_arrivals : {L : Type 0} → links.Ghosts L → arrivals.Ghosts (PacedLink L) LinkStop
link_arrivals g = record { came = LinkCame g; failed = LinkFailed g }

-- it says that the link failed
abbrev pub is_fault : Item → Bool
is_fault (items.Fault Failed) = true
is_fault _ = false

-- one of them says so
abbrev pub has_fault : List Item → Bool
has_fault xs = list_any is_fault xs

module _ {L : Type 0} (g : links.Ghosts L) where
  abbrev pub LegStands : LinkLeg L → LinkLeg L → List Item → Type 0
  LegStands first now items = stands.LegStands (link_arrivals g) first now items

  abbrev pub LegGave : LinkLeg L → LinkLeg L → List LinkItem → Type 0
  LegGave first now gave = stands.LegGave (link_arrivals g) first now gave
