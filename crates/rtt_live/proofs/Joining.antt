-- What legs gave that ran, by what was popped of them.
use Rattle.std.proofs.Common.{◌≡◌, ℕ, zero, suc, ◌≤◌, true, false, true≢false, inl, inr, Some, List, [], ◌∷◌, ◌++◌, append_assoc, length, refl, ap, sym, ◌∙◌, subst, arith}
use Rattle.std.specs.Prelude.{map, slice_get}
use Rattle.std.proofs.lemmas.Option.{slice_get_within}
use Rattle.rtt_base.specs.declared.text_packets.PayloadTypes.{PayloadTypes}
use Rattle.mixer_spec.specs.Setups.{AllStay, Setup}
use Rattle.mixer_spec.specs.Table.{Call}
use Rattle.workers.specs.declared.lanes.Worker.{Worker}
use Rattle.workers.specs.Lanes.{AreBack, AreStarted, BeganWith, ComesBack, IsStarted, LaneFollows, popped_of}
use Rattle.workers.specs.Pairs.{Pairs}
use Rattle.link_io.specs.declared.ends.LinkIn as links
use Rattle.live_leg.specs.LinkLegs.{Item, LegGave, LegStands, LinkItem, LinkLeg, has_fault}
use Rattle.live_leg.specs.Items.{items_of}
use Rattle.live_leg.proofs.Texts.{items_append}
use Rattle.mix_loop.specs.declared.live_ports.LivePort.{LivePort}
use Rattle.mix_loop.specs.Begun.{AreAdmits}
use Rattle.mix_loop.proofs.Begun.{may_begin}
use Rattle.mix_loop.specs.Opening.{AreBegun}
use Rattle.mix_loop.specs.LivePorts.{Grew, IsBegun}
use Rattle.mix_loop.specs.Walks.{IsServing}
use Rattle.mix_loop.specs.declared.live_turns.LiveTurnsEnd.{LiveTurnsEnd}
use Rattle.rtt_live.specs.declared.faults.LiveFault.{LiveFault}
use Rattle.rtt_live.specs.Jobs.{ArePortsOf, GaveFirst, IsInletOf, IsPortOf, TurnsWere, popped_in}
use Rattle.rtt_live.specs.Mixers.{all_admitted}
use Rattle.rtt_live.proofs.Seating.{all_seated, may_come}
use Rattle.stream_spec.proofs.Plain.{get_at as is_there}

-- ---- ports
pub port_of : {I : Type 0} (inlet : I) (leg : ℕ) (p : LivePort I) → IsBegun inlet leg p → IsPortOf inlet p
port_of inlet leg p b = record { is = b.is; leg_is = refl; empty = b.empty; going = b.going; well = b.well }

module _ {I : Type 0} where
  inlet_at : (ps : List (LivePort I)) (j : ℕ) (p : LivePort I) → slice_get ps j ≡ Some p → slice_get (map (λ (q : LivePort I). q.inlet) ps) j ≡ Some p.inlet
  inlet_at [] j p e = absurd (cc e)
  inlet_at (q ∷ ps) zero p e = let is : q ≡ p = cc e in ap (λ (x : LivePort I). Some x.inlet) is
  inlet_at (q ∷ ps) (suc j) p e = inlet_at ps j p e

  inlet_count : (ps : List (LivePort I)) → length (map (λ (q : LivePort I). q.inlet) ps) ≡ length ps
  inlet_count [] = refl
  inlet_count (q ∷ ps) = ap suc (inlet_count ps)

  -- a port for each of these, as a list of pairs
  pub ports_begun : (inlets : List I) (ps : List (LivePort I)) → AreBegun inlets ps → ArePortsOf inlets ps
  ports_begun inlets ps b = record {
    pairs = record {
      many = sym (inlet_count ps) ∙ ap (λ (xs : List I). length xs) b.are;
      are = λ j x p ex ep.
          let is : p.inlet ≡ x = cc (sym (inlet_at ps j p ep) ∙ (ap (λ (xs : List I). slice_get xs j) b.are ∙ ex)) in
          subst (λ (y : I). IsPortOf y p) is (port_of p.inlet j p (b.each j p ep));
    };
    at = λ j p e. (b.each j p e).leg_is;
  }

  -- and what stood at these ports
  pub inlets_paired : (ps : List (LivePort I)) (inlets : List I) → inlets ≡ map (λ p. p.inlet) ps → Pairs IsInletOf ps inlets
  inlets_paired ps inlets e = record {
    many = ap (λ (xs : List I). length xs) e ∙ inlet_count ps;
    are = λ j p x ep ex. cc (sym ex ∙ (ap (λ (xs : List I). slice_get xs j) e ∙ inlet_at ps j p ep));
  }

-- ---- before the first turn
all_admits : (s : Setup) (n : ℕ) → AllStay s → n ≤ s.legs → AreAdmits s (all_admitted n)
all_admits s zero st l = tt
all_admits s (suc n) st l = (may_come s n st (omega (arith, l)), all_admits s n st (omega (arith, l)))

module _ {I M : Type 0} (popped : I → List Item) (stands : M → Setup → (ℕ → PayloadTypes) → List Call → Type 0) where
  -- all legs came, and nothing was popped
  pub serving_first : (s : Setup) (payload_types : ℕ → PayloadTypes) (inlets : List I) (ps : List (LivePort I)) (m : M) → Pairs IsPortOf inlets ps
      → ((j : ℕ) (x : I) → slice_get inlets j ≡ Some x → popped x ≡ []) → AllStay s → stands m s payload_types (all_admitted s.legs) → IsServing popped stands s payload_types 0 ps m
  serving_first s payload_types inlets ps m pairs none st made = may_begin popped stands s payload_types (all_admitted s.legs) ps m made (all_admits s s.legs st (omega arith)) (all_seated s s.legs st (omega arith)) (λ j p e.
      let x = is_there inlets j (let low = slice_get_within ps j p e in let many = pairs.many in omega arith) in
      let b = pairs.are j x.0 p x.1 e in
      record { none = ap popped b.is ∙ none j x.0 x.1; empty = b.empty; going = b.going })

-- a fault of which a port knows was popped, where it did not know of it before, and nothing was popped then
fault_popped : {I : Type 0} (popped : I → List Item) (began : I → I → Type 0) (p q : LivePort I) → Grew popped began p q → p.failed ≡ false → popped p.inlet ≡ [] → q.failed ≡ true → has_fault (popped q.inlet) ≡ true
fault_popped popped began p q grew well none failed = elim (grew.fails failed) [
  | inl old ↦ absurd (true≢false (sym old ∙ well))
  | inr fault ↦ ap has_fault (grew.popped_are ∙ ap (λ (xs : List Item). xs ++ grew.more) none) ∙ fault
]

-- ---- legs that come back
module _ {L G : Type 0} (g : links.Ghosts L) where
  pub gave_first : (first back : LinkLeg L) (begun joined : Worker LinkItem (LinkLeg L) G) (p0 p1 p2 : LivePort (Worker LinkItem (LinkLeg L) G))
      → IsStarted (LegGave g) first begun → IsPortOf begun p0 → Grew popped_in (LaneFollows (LegGave g)) p0 p1 → Grew popped_in (LaneFollows (LegGave g)) p1 p2
      → joined ≡ p2.inlet → ComesBack (LegGave g) joined back → GaveFirst g first back (popped_in p1.inlet)
  gave_first first back begun joined p0 p1 p2 started port grew emptied is comes =
      let runs = emptied.goes_on p0.inlet (grew.goes_on p0.inlet (λ f r. r)) in
      let began : BeganWith (LegGave g) first p0.inlet = subst (λ (x : Worker LinkItem (LinkLeg L) G). BeganWith (LegGave g) first x) (sym port.is) started.runs in
      let c = comes first (subst (λ (x : Worker LinkItem (LinkLeg L) G). BeganWith (LegGave g) first x) (sym is) (runs first began)) in
      let items : items_of (popped_of joined ++ c.0) ≡ popped_in p1.inlet ++ (emptied.more ++ items_of c.0) =
      items_append (popped_of joined) c.0
      ∙ (ap (λ (xs : List Item). xs ++ items_of c.0) (ap popped_in is ∙ emptied.popped_are) ∙ append_assoc (popped_in p1.inlet) emptied.more (items_of c.0)) in
      (emptied.more ++ items_of c.0, subst (λ (xs : List Item). LegStands g first back xs) items c.1)

module _ {L M G : Type 0} (g : links.Ghosts L) (stands : M → Setup → (ℕ → PayloadTypes) → List Call → Type 0) where
  -- nothing was popped of what is started
  pub none_popped : (legs : List (LinkLeg L)) (lanes : List (Worker LinkItem (LinkLeg L) G)) → AreStarted (LegGave g) legs lanes
      → (j : ℕ) (x : Worker LinkItem (LinkLeg L) G) → slice_get lanes j ≡ Some x → popped_in x ≡ []
  none_popped legs lanes started j x e =
      let first = is_there legs j (let low = slice_get_within lanes j x e in let many = started.many in omega arith) in
      ap items_of (started.are j first.0 x first.1 e).none

  -- each leg gave first what was popped of it at the end of the turns
  pub all_gave : {then halts : M → Setup → (ℕ → PayloadTypes) → List Call → Type 0} (turns : ℕ) (turned : LiveTurnsEnd LiveFault) (legs back : List (LinkLeg L)) (lanes joined : List (Worker LinkItem (LinkLeg L) G)) (ps new : List (LivePort (Worker LinkItem (LinkLeg L) G))) (m m' : M)
      → AreStarted (LegGave g) legs lanes → ArePortsOf lanes ps → (w : TurnsWere popped_in (LaneFollows (LegGave g)) stands then halts turns turned ps new m m')
      → Pairs IsInletOf new joined → AreBack (LegGave g) joined back
      → (j : ℕ) (p : LivePort (Worker LinkItem (LinkLeg L) G)) (first last : LinkLeg L) → slice_get w.ports j ≡ Some p → slice_get legs j ≡ Some first → slice_get back j ≡ Some last
      → GaveFirst g first last (popped_in p.inlet)
  all_gave turns turned legs back lanes joined ps new m m' started ports w inlets comes j p first last ep ef el =
      let lane = is_there lanes j (let low = slice_get_within legs j first ef in let many = started.many in omega arith) in
      let p0 = is_there ps j (let low = slice_get_within w.ports j p ep in let many = w.many in omega arith) in
      let q = w.grew j p0.0 p0.1 in
      let same : q.0 ≡ p = cc (q.1, ep) in
      let r = w.emptied j p ep in
      let lane2 = is_there joined j (let low = slice_get_within new j r.0 r.1 in let many = inlets.many in omega arith) in
      gave_first g first last lane.0 lane2.0 p0.0 p r.0 (started.are j first lane.0 ef lane.1) (ports.pairs.are j lane.0 p0.0 lane.1 p0.1)
      (subst (λ (x : LivePort (Worker LinkItem (LinkLeg L) G)). Grew popped_in (LaneFollows (LegGave g)) p0.0 x) same q.2) r.2 (inlets.are j r.0 lane2.0 r.1 lane2.1) (comes.are j lane2.0 last lane2.1 el)

  -- a fault of which a port knows was popped there
  pub all_failed : {then halts : M → Setup → (ℕ → PayloadTypes) → List Call → Type 0} (turns : ℕ) (turned : LiveTurnsEnd LiveFault) (lanes : List (Worker LinkItem (LinkLeg L) G)) (ps new : List (LivePort (Worker LinkItem (LinkLeg L) G))) (m m' : M)
      → ArePortsOf lanes ps → ((j : ℕ) (x : Worker LinkItem (LinkLeg L) G) → slice_get lanes j ≡ Some x → popped_in x ≡ [])
      → (w : TurnsWere popped_in (LaneFollows (LegGave g)) stands then halts turns turned ps new m m')
      → (j : ℕ) (p : LivePort (Worker LinkItem (LinkLeg L) G)) → slice_get w.ports j ≡ Some p → p.failed ≡ true → has_fault (popped_in p.inlet) ≡ true
  all_failed turns turned lanes ps new m m' ports none w j p ep failed =
      let p0 = is_there ps j (let low = slice_get_within w.ports j p ep in let many = w.many in omega (arith, low, many)) in
      let lane = is_there lanes j (let low = slice_get_within ps j p0.0 p0.1 in let many = ports.pairs.many in omega (arith, low, many)) in
      let q = w.grew j p0.0 p0.1 in
      let same : q.0 ≡ p = cc (q.1, ep) in
      let grew : Grew popped_in (LaneFollows (LegGave g)) p0.0 p = subst (λ (x : LivePort (Worker LinkItem (LinkLeg L) G)). Grew popped_in (LaneFollows (LegGave g)) p0.0 x) same q.2 in
      let begun = ports.pairs.are j lane.0 p0.0 lane.1 p0.1 in
      let first : popped_in p0.0.inlet ≡ [] = ap popped_in begun.is ∙ none j lane.0 lane.1 in
      fault_popped popped_in (LaneFollows (LegGave g)) p0.0 p grew begun.well first failed
