-- What is known of links that are opened, and of those that were handed back.
use Rattle.std.specs.Prelude.{◌≡◌, ◌⊎◌, ℕ, ◌<◌, Bool, true, Some, IsSome, List, [], ◌∷◌, ◌++◌, map, slice_get, take}
use Rattle.std.specs.Option.{option_map_or}
use Rattle.rtt_io.specs.Counts.{Rose}
use Rattle.file_spec.specs.declared.conference_lines.LegLine.{LegLine}
use Rattle.file_spec.specs.Conference.{Conference, port}
use Rattle.mixer_spec.specs.Setups.{leg_at}
use Rattle.link_io.specs.declared.ends.LinkIn as ins
use Rattle.link_io.specs.declared.ends.LinkOut as outs
use Rattle.receiver.specs.Cuts.{cut_within}
use Rattle.live_leg.specs.declared.settings.LegSettings.{LegSettings}
use Rattle.live_leg.specs.LinkLegs.{LegStands, LinkLeg}
use Rattle.rtt_live.specs.declared.faults.LiveFault.{LiveFault}
use Rattle.rtt_live.specs.declared.faults.LiveFault.TheVariants.{Link, NoMemory}

-- how a leg is heard
abbrev pub leg_settings_at : Conference → LegLine → LegSettings
leg_settings_at c leg = record {
  ear = record { ssrc = leg.ssrc; payload_types = leg.payload_types; wait = c.wait; long = leg.long; cut = cut_within c.mtu };
  follow = leg.follow;
}

-- the input of each leg is a port
abbrev pub HavePorts : Conference → Type 0
HavePorts c = (j : ℕ) (leg : LegLine) → leg_at c.legs j ≡ Some leg → IsSome (port leg.input)

-- ---- to whom
-- the link of a leg: its port, and the peer that it leads to
abbrev pub link_of : LegLine → ℕ × List ℕ
link_of leg = (option_map_or (λ (p : ℕ). p) (port leg.input) 0, leg.output)

-- the port of the leg j
abbrev pub port_of : Conference → ℕ → ℕ
port_of c j = option_map_or (λ (leg : LegLine). (link_of leg).0) (leg_at c.legs j) 0

-- the link of the leg j was opened, and no other
abbrev pub LeadsOne : Conference → ℕ → List (ℕ × List ℕ) → List (ℕ × List ℕ) → Type 0
LeadsOne c j old new = (line : LegLine) → leg_at c.legs j ≡ Some line → new ≡ old ++ link_of line ∷ []

-- those of the first n legs were, in leg order, and no other
abbrev pub LeadsFirst : ℕ → Conference → List (ℕ × List ℕ) → List (ℕ × List ℕ) → Type 0
LeadsFirst n c old new = new ≡ old ++ map link_of (take n c.legs)

-- those of some legs, from the first one on
abbrev pub LeadsSome : Conference → List (ℕ × List ℕ) → List (ℕ × List ℕ) → Type 0
LeadsSome c old new = (n : ℕ) × LeadsFirst n c old new

-- those of all legs
abbrev pub LeadsAll : Conference → List (ℕ × List ℕ) → List (ℕ × List ℕ) → Type 0
LeadsAll c old new = new ≡ old ++ map link_of c.legs

-- ---- that are opened
-- The leg j over the inbound end of its link, of which nothing was taken. Where the world tells it, a link is opened at its port.
pub record IsOpenedLeg {I : Type 0} (g : ins.Ghosts I) (tells : Type 0) (opened : ℕ → Bool) (c : Conference) (j : ℕ) (line : LegLine) (leg : LinkLeg I) : Type 0 where
  pub settings : leg.settings ≡ leg_settings_at c line
  pub new : LegStands g leg leg []
  pub at : port line.input ≡ Some (g.port leg.arrivals.link)
  pub fresh : g.faults leg.arrivals.link ≡ 0
  pub told : tells → g.tells × (g.taken leg.arrivals.link ≡ []) × (opened (g.port leg.arrivals.link) ≡ true)

-- the outbound end of its link, which was given nothing
pub record IsOpenedEnd {O K : Type 0} (g : outs.Ghosts O K) (tells : Type 0) (line : LegLine) (end : O) : Type 0 where
  pub at : port line.input ≡ Some (g.port end)
  pub fresh : g.faults end ≡ 0
  pub none : g.given end ≡ []
  pub told : tells → g.tells

-- nothing was given to these, and none failed
abbrev pub AreUnused : {O K : Type 0} → (O → List K) → (O → ℕ) → List O → Type 0
AreUnused {O} given faults ends = (j : ℕ) (end : O) → slice_get ends j ≡ Some end → (given end ≡ []) × (faults end ≡ 0)

-- each of these was given nothing, and a link was opened at its port
abbrev pub AreEmptyAt : {O K : Type 0} → (O → List K) → (O → ℕ) → (ℕ → Bool) → List O → Type 0
AreEmptyAt {O} given port_of opened ends = (j : ℕ) (end : O) → slice_get ends j ≡ Some end
    → (given end ≡ []) × (opened (port_of end) ≡ true)

-- under each port is what was there before, or nothing
abbrev pub GivesNothing : {K : Type 0} → (ℕ → List K) → (ℕ → List K) → Type 0
GivesNothing old new = (p : ℕ) → (new p ≡ old p) ⊎ (new p ≡ [])

-- why the link of the leg j was not opened: the count of its port rose, or memory ran out
abbrev pub LinkIsRefused : (ℕ → ℕ) → (ℕ → ℕ) → ℕ → LegLine → LiveFault → Type 0
LinkIsRefused before after j line (Link k) = (k ≡ j) × ((p : ℕ) → port line.input ≡ Some p → Rose (before p) (after p))
LinkIsRefused before after j line NoMemory = Unit {0}

-- the same of the leg with this number
abbrev pub OpensLeg : {I : Type 0} → ins.Ghosts I → Type 0 → (ℕ → Bool) → Conference → ℕ → LinkLeg I → Type 0
OpensLeg g tells opened c j leg = (line : LegLine) → leg_at c.legs j ≡ Some line
    → IsOpenedLeg g tells opened c j line leg

abbrev pub OpensEnd : {O K : Type 0} → outs.Ghosts O K → Type 0 → Conference → ℕ → O → Type 0
OpensEnd g tells c j end = (line : LegLine) → leg_at c.legs j ≡ Some line → IsOpenedEnd g tells line end

abbrev pub IsRefusedAt : (ℕ → ℕ) → (ℕ → ℕ) → Conference → ℕ → LiveFault → Type 0
IsRefusedAt before after c j fault = (line : LegLine) → leg_at c.legs j ≡ Some line
    → LinkIsRefused before after j line fault

-- those of all legs, in leg order
abbrev pub OpenLegs : {I : Type 0} → ins.Ghosts I → Type 0 → (ℕ → Bool) → Conference → List (LinkLeg I) → Type 0
OpenLegs {I} g tells opened c legs = (j : ℕ) (leg : LinkLeg I) → slice_get legs j ≡ Some leg
    → OpensLeg g tells opened c j leg

abbrev pub OpenEnds : {O K : Type 0} → outs.Ghosts O K → Type 0 → Conference → List O → Type 0
OpenEnds {O} g tells c ends = (j : ℕ) (end : O) → slice_get ends j ≡ Some end → OpensEnd g tells c j end

-- a link was opened at the port of each leg below n
abbrev pub AreOpenBelow : ℕ → (ℕ → Bool) → Conference → Type 0
AreOpenBelow n opened c = (j : ℕ) (line : LegLine) (p : ℕ) → j < n → leg_at c.legs j ≡ Some line
    → port line.input ≡ Some p → opened p ≡ true

-- Why not all links were opened: the count of the port of a leg rose, and those of the legs before it were opened; or memory ran out.
abbrev pub IsNotOpened : Type 0 → (ℕ → Bool) → (ℕ → ℕ) → (ℕ → ℕ) → Conference → LiveFault → Type 0
IsNotOpened tells opened before after c (Link k) =
    (line : LegLine) × (leg_at c.legs k ≡ Some line) × ((p : ℕ) → port line.input ≡ Some p → Rose (before p) (after p)) × (tells → AreOpenBelow k opened c)
IsNotOpened tells opened before after c NoMemory = Unit {0}

-- ---- that were handed back
-- the inbound end of a leg's link
abbrev pub link_in : {I : Type 0} → LinkLeg I → I
link_in leg = leg.arrivals.link

module _ {X : Type 0} where
  -- none of these failed
  abbrev pub AreCalm : (X → ℕ) → List X → Type 0
  AreCalm faults xs = (j : ℕ) (x : X) → slice_get xs j ≡ Some x → faults x ≡ 0

  -- where one of these failed, the count of its port rose
  abbrev pub FaultsRose : (X → ℕ) → (X → ℕ) → (ℕ → ℕ) → (ℕ → ℕ) → List X → Type 0
  FaultsRose faults port_of before after xs = (j : ℕ) (x : X) → slice_get xs j ≡ Some x → Rose 0 (faults x)
      → Rose (before (port_of x)) (after (port_of x))

  -- no two of these are of one port
  abbrev pub HaveOwnPorts : (X → ℕ) → List X → Type 0
  HaveOwnPorts port_of xs = (j k : ℕ) (x y : X) → slice_get xs j ≡ Some x → slice_get xs k ≡ Some y
      → port_of x ≡ port_of y → j ≡ k

  -- where a link was opened at the port of one of these, what it has is stored there
  abbrev pub AreStored : {K : Type 0} → (X → K) → (X → ℕ) → (ℕ → Bool) → (ℕ → K) → List X → Type 0
  AreStored has port_of opened stored xs =
      HaveOwnPorts port_of xs → (j : ℕ) (x : X) → slice_get xs j ≡ Some x → opened (port_of x) ≡ true
      → stored (port_of x) ≡ has x
