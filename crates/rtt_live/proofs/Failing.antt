-- Where a leg said that its link failed, its link did; and none failed that was closed.
use Rattle.std.proofs.Common.{◌≡◌, Bool, true, false, true≢false, inl, inr, Option, None, Some, List, [], ◌∷◌, ◌++◌, refl, ap, sym, ◌∙◌, subst}
use Rattle.std.specs.Prelude.{◌||◌}
use Rattle.rtt_io.specs.Counts.{Rose}
use Rattle.stream_spec.specs.Links.{Takes, is_closed}
use Rattle.link_io.specs.declared.ends.LinkIn as links
use Rattle.live_spec.specs.Told.{Hearing}
use Rattle.mix_loop.proofs.CallOpening.{open_takes}
use Rattle.live_leg.specs.declared.paced_links.LinkStop.{LinkStop}
use Rattle.live_leg.specs.declared.paced_links.LinkStop.TheVariants.{Failed, Told}
use Rattle.live_leg.specs.declared.states.State.{State}
use Rattle.live_leg.specs.declared.states.State.TheVariants.{Idle, Giving, Blank, Parting, Ending, Over}
use Rattle.live_leg.specs.LinkLegs.{Item, LegStands, LinkLeg, has_fault, is_fault, link_arrivals}
use Rattle.live_leg.specs.Items.{fault_in}
use Rattle.live_leg.specs.Items as item
use Rattle.live_leg.specs.Stands.{IsGivingSome, PhaseAt, Went}
use Rattle.live_leg.specs.Stories.{hearing_of}
use Rattle.live_leg.proofs.Pacing.{fault_append}
use Rattle.live_leg.proofs.Texts.{fault_behind, items_calm, texts_calm}
use Rattle.rtt_live.specs.Jobs.{GaveFirst}
use Rattle.mix_loop.proofs.Enough.{fault_before as front_fault}

none_fails : (xs : List Item) → fault_in xs ≡ None → has_fault xs ≡ false
none_fails [] e = refl
none_fails (item.Text ready octets ∷ xs) e = none_fails xs e
none_fails (item.Seen ∷ xs) e = none_fails xs e
none_fails (item.Silent ∷ xs) e = none_fails xs e
none_fails (item.End ∷ xs) e = none_fails xs e
none_fails (item.Fault why ∷ xs) e = absurd (cc e)

some_calm : (closing : Bool) (signal : Item) (h : Hearing) (takes : Takes) (items : List Item) → IsGivingSome closing signal h takes items → fault_in items ≡ None
some_calm closing signal h takes items p = ap fault_in p.items_are ∙ (fault_behind p.before p.news (items_calm h p.past p.before p.are) ∙ texts_calm p.news p.texts)

phase_calm : (st : State) (h : Hearing) (takes : Takes) (items : List Item) → PhaseAt st h takes items → is_closed takes ≡ true → fault_in items ≡ None
phase_calm Idle h takes items p e = items_calm h takes items p.are
phase_calm Giving h takes items p e = some_calm false item.Seen h takes items p
phase_calm Blank h takes items p e = some_calm false item.Silent h takes items p
phase_calm Parting h takes items p e = some_calm false item.Seen h takes items p
phase_calm Ending h takes items p e = some_calm true item.End h takes items p
phase_calm Over h takes items (inl p) e = items_calm h takes items p.are
phase_calm Over h takes items (inr p) e = absurd (true≢false (sym e ∙ open_takes h takes p.open_still))

-- a fault is the last item, and none of before is one
last_failed : (x : Item) → (is_fault x || false) ≡ true → fault_in (x ∷ []) ≡ Some Failed
last_failed (item.Text ready octets) e = absurd (true≢false (sym e))
last_failed item.Seen e = absurd (true≢false (sym e))
last_failed item.Silent e = absurd (true≢false (sym e))
last_failed item.End e = absurd (true≢false (sym e))
last_failed (item.Fault Failed) e = refl
last_failed (item.Fault Told) e = absurd (true≢false (sym e))

phase_failed : (st : State) (h : Hearing) (takes : Takes) (items : List Item) → PhaseAt st h takes items → has_fault items ≡ true → fault_in items ≡ Some Failed
phase_failed st h takes items p e = go st p
  where
    none : fault_in items ≡ None → fault_in items ≡ Some Failed
    none n = absurd (true≢false (sym e ∙ none_fails items n))

    go : (st : State) → PhaseAt st h takes items → fault_in items ≡ Some Failed
    go Idle q = none (items_calm h takes items q.are)
    go Giving q = none (some_calm false item.Seen h takes items q)
    go Blank q = none (some_calm false item.Silent h takes items q)
    go Parting q = none (some_calm false item.Seen h takes items q)
    go Ending q = none (some_calm true item.End h takes items q)
    go Over (inl q) = none (items_calm h takes items q.are)
    go Over (inr q) =
        let calm = items_calm h takes q.before q.are in
        let fails : (is_fault q.last || false) ≡ true = ap (λ (b : Bool). b || (is_fault q.last || false)) (sym (none_fails q.before calm)) ∙ (sym (fault_append q.before (q.last ∷ [])) ∙ (ap has_fault (sym q.items_are) ∙ e)) in
        ap fault_in q.items_are ∙ (fault_behind q.before (q.last ∷ []) calm ∙ last_failed q.last fails)

module _ {L : Type 0} (g : links.Ghosts L) (first back : LinkLeg L) where
  went_so : (o : Option LinkStop) (items : List Item) (w : LegStands g first back items) → fault_in items ≡ o → Went (link_arrivals g) o first.arrivals back.arrivals w.so.takes
  went_so o items w e = subst (λ (x : Option LinkStop). Went (link_arrivals g) x first.arrivals back.arrivals w.so.takes) e w.so.went

  pub fault_rose : (popped : List Item) → GaveFirst g first back popped → has_fault popped ≡ true → Rose (g.faults first.arrivals.link) (g.faults back.arrivals.link)
  fault_rose popped w e =
      let items = popped ++ w.0 in
      (went_so (Some Failed) items w.1 (phase_failed back.state (hearing_of first.settings) w.1.so.takes items w.1.so.phase (front_fault popped w.0 e))).counts

  -- none of its takes failed
  pub closed_calm : (items : List Item) (w : LegStands g first back items) → is_closed w.so.takes ≡ true → g.faults back.arrivals.link ≡ g.faults first.arrivals.link
  closed_calm items w e = (went_so None items w (phase_calm back.state (hearing_of first.settings) w.so.takes items w.so.phase e)).calm
