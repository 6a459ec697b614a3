-- Links that are opened one by one, in leg order.
use Rattle.std.proofs.Common.{◌≡◌, ℕ, ◌+◌, ◌<◌, ◌≤◌, ◌⊎◌, inl, inr, Some, List, [], ◌∷◌, ◌++◌, true, append_assoc, get_or, length, map, take, ap, sym, ◌∙◌, subst, arith}
use Rattle.std.specs.Option.{option_map_or}
use Rattle.std.specs.Prelude.{Bool, Option, slice_get}
use Rattle.std.proofs.lemmas.List.{append-nil, map_more, take_all}
use Rattle.std.proofs.lemmas.Option.{slice_get_within}
use Rattle.rtt_io.specs.Counts.{Rose}
use Rattle.file_spec.specs.declared.conference_lines.LegLine.{LegLine}
use Rattle.file_spec.specs.Conference.{Conference, port}
use Rattle.mixer_spec.specs.Setups.{leg_at}
use Rattle.link_io.specs.declared.ends.LinkIn as ins
use Rattle.link_io.specs.declared.ends.LinkOut as outs
use Rattle.live_leg.specs.LinkLegs.{LinkLeg}
use Rattle.rtt_live.specs.declared.faults.LiveFault.{LiveFault}
use Rattle.rtt_live.specs.declared.faults.LiveFault.TheVariants.{Link, NoMemory}
use Rattle.rtt_live.specs.Opened.{AreCalm, AreEmptyAt, AreOpenBelow, IsNotOpened, IsRefusedAt, LeadsAll, LeadsFirst, LeadsOne, LeadsSome, OpenEnds, OpenLegs, OpensEnd, OpensLeg, link_of}
use Rattle.rtt_live.proofs.Showing.{read_leg}
use Rattle.mixer_spec.proofs.Plain.{leg_there as some_leg}
use Rattle.stream_spec.proofs.Plain.{get_at as is_there, get_push as pushed}

module _ {I : Type 0} (g : ins.Ghosts I) (tells : Type 0) (c : Conference) where
  -- a port that was open is open still
  leg_stays : (before after : ℕ → Bool) → (tells → (p : ℕ) → before p ≡ true → after p ≡ true) → (j : ℕ) (leg : LinkLeg I) → OpensLeg g tells before c j leg → OpensLeg g tells after c j leg
  leg_stays before after stay j leg o line at =
      let w = o line at in
      record { settings = w.settings; new = w.new; at = w.at; fresh = w.fresh; told = λ t. let r = w.told t in (r.0, r.1, stay t (g.port leg.arrivals.link) r.2) }

  -- none, and one more
  pub no_legs : (opened : ℕ → Bool) (legs : List (LinkLeg I)) → legs ≡ [] → OpenLegs g tells opened c legs
  no_legs opened legs none j leg e = absurd (cc (ap (λ (xs : List (LinkLeg I)). slice_get xs j) (sym none) ∙ e))

  pub legs_more : (before after : ℕ → Bool) (legs : List (LinkLeg I)) (leg : LinkLeg I) (j : ℕ) → (tells → (p : ℕ) → before p ≡ true → after p ≡ true) → length legs ≡ j
      → OpenLegs g tells before c legs → OpensLeg g tells after c j leg → OpenLegs g tells after c (legs ++ leg ∷ [])
  legs_more before after legs leg j stay len all one k x e = elim (pushed legs leg k x e) [
    | inl f ↦ leg_stays before after stay k x (all k x f)
    | inr q ↦ subst (λ (i : ℕ). OpensLeg g tells after c i x) (sym (q.0 ∙ len)) (subst (λ (y : LinkLeg I). OpensLeg g tells after c j y) (sym q.1) one)
  ]

  -- their ports are open
  pub open_below : (opened : ℕ → Bool) (legs : List (LinkLeg I)) (n : ℕ) → length legs ≡ n → OpenLegs g tells opened c legs → tells → AreOpenBelow n opened c
  open_below opened legs n len all t j line p low at there =
      let leg = is_there legs j (omega (arith, low, len)) in
      let w = all j leg.0 leg.1 line at in
      let is : g.port leg.0.arrivals.link ≡ p = cc (sym w.at ∙ there) in
      subst (λ (q : ℕ). opened q ≡ true) is (w.told t).2

  pub legs_calm : (opened : ℕ → Bool) (legs : List (LinkLeg I)) (n : ℕ) → length legs ≡ n → n ≤ length c.legs → OpenLegs g tells opened c legs → AreCalm (λ leg. g.faults leg.arrivals.link) legs
  legs_calm opened legs n len few all j leg e =
      let low = slice_get_within legs j leg e in
      let line = some_leg c.legs j (omega (arith, low, len, few)) in
      (all j leg e line.0 line.1).fresh

module _ {O K : Type 0} (g : outs.Ghosts O K) (tells : Type 0) (c : Conference) where
  pub no_ends : (ends : List O) → ends ≡ [] → OpenEnds g tells c ends
  no_ends ends none j end e = absurd (cc (ap (λ (xs : List O). slice_get xs j) (sym none) ∙ e))

  pub ends_more : (ends : List O) (end : O) (j : ℕ) → length ends ≡ j → OpenEnds g tells c ends → OpensEnd g tells c j end → OpenEnds g tells c (ends ++ end ∷ [])
  ends_more ends end j len all one k x e = elim (pushed ends end k x e) [
    | inl f ↦ all k x f
    | inr q ↦ subst (λ (i : ℕ). OpensEnd g tells c i x) (sym (q.0 ∙ len)) (subst (λ (y : O). OpensEnd g tells c j y) (sym q.1) one)
  ]

  pub ends_calm : (ends : List O) (n : ℕ) → length ends ≡ n → n ≤ length c.legs → OpenEnds g tells c ends → AreCalm g.faults ends
  ends_calm ends n len few all j end e =
      let low = slice_get_within ends j end e in
      let line = some_leg c.legs j (omega (arith, low, len, few)) in
      (all j end e line.0 line.1).fresh

  -- nothing was given to them, and links are open at their ports
  pub ends_empty : (opened : ℕ → Bool) (ends : List O) (n : ℕ) → length ends ≡ n → n ≤ length c.legs → OpenEnds g tells c ends → AreOpenBelow n opened c → AreEmptyAt g.given g.port opened ends
  ends_empty opened ends n len few all below j end e =
      let low = slice_get_within ends j end e in
      let line = some_leg c.legs j (omega (arith, low, len, few)) in
      let w = all j end e line.0 line.1 in
      (w.none, below j line.0 (g.port end) (omega (arith, low, len)) line.1 w.at)

-- ---- to whom
module _ (c : Conference) (first old new : List (ℕ × List ℕ)) (n : ℕ) (low : n < length c.legs) (so_far : LeadsFirst n c first old) where
  -- one more link was opened
  pub leads_more : LeadsOne c n old new → LeadsFirst (n + 1) c first new
  leads_more one =
      let line = some_leg c.legs n low in
      let here : get_or c.legs n line.0 ≡ line.0 = read_leg c.legs n line.0 line.0 line.1 in
      one line.0 line.1
      ∙ (ap (λ (xs : List (ℕ × List ℕ)). xs ++ link_of line.0 ∷ []) so_far
      ∙ (append_assoc first (map link_of (take n c.legs)) (link_of line.0 ∷ [])
      ∙ ap (λ (xs : List (ℕ × List ℕ)). first ++ xs) (sym (map_more link_of c.legs n line.0 low ∙ ap (λ (leg : LegLine). map link_of (take n c.legs) ++ link_of leg ∷ []) here))))

  -- or none
  pub leads_some : (new ≡ old) ⊎ LeadsOne c n old new → LeadsSome c first new
  leads_some (inl same) = (n, same ∙ so_far)
  leads_some (inr one) = (n + 1, leads_more one)

-- a port and a peer that are those of the leg
pub pair_is : (p : ℕ) (to : List ℕ) (line : LegLine) → port line.input ≡ Some p → to ≡ line.output → (p, to) ≡ link_of line
pair_is p to line there is =
    let pair : ℕ → List ℕ → ℕ × List ℕ = λ n name. (n, name) in
    subst (λ (o : Option ℕ). pair p to ≡ pair (option_map_or (λ (q : ℕ). q) o 0) line.output) (sym there) (ap (pair p) is)

-- none was opened yet
pub leads_none : (c : Conference) (first : List (ℕ × List ℕ)) → LeadsFirst 0 c first first
leads_none c first = sym (append-nil first)

-- all were
pub leads_all : (c : Conference) (first new : List (ℕ × List ℕ)) (n : ℕ) → length c.legs ≤ n → LeadsFirst n c first new → LeadsAll c first new
leads_all c first new n all some = some ∙ ap (λ (legs : List LegLine). first ++ map link_of legs) (take_all n c.legs all)

-- the link of this leg was not opened, and those before it were handed back
pub not_opened : (tells : Type 0) (opened : ℕ → Bool) (before now after last : ℕ → ℕ) (c : Conference) (own : ℕ) (fault : LiveFault) → own < length c.legs → ((p : ℕ) → now p ≡ before p) → ((p : ℕ) → last p ≡ after p)
    → (tells → AreOpenBelow own opened c) → IsRefusedAt now after c own fault → IsNotOpened tells opened before last c fault
not_opened tells opened before now after last c own (Link k) low b a below r =
    let line = some_leg c.legs own low in
    let w = r line.0 line.1 in (
      line.0,
      ap (λ (i : ℕ). leg_at c.legs i) w.0 ∙ line.1,
      λ p e. subst (λ (x : ℕ). Rose x (last p)) (b p) (subst (λ (x : ℕ). Rose (now p) x) (sym (a p)) (w.1 p e)),
      λ t. subst (λ (n : ℕ). AreOpenBelow n opened c) (sym w.0) (below t),
    )
not_opened tells opened before now after last c own NoMemory low b a below r = tt
