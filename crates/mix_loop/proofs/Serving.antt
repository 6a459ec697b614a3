-- From what was popped of each leg to a live run.
use Rattle.std.proofs.Common.{◌≡◌, ◌<◌, ◌≤◌, ℕ, zero, suc, inl, inr, Some, None, List, [], ◌∷◌, ◌++◌, length, refl, ap, sym, ◌∙◌, subst, arith}
use Rattle.std.specs.Prelude.{slice_get}
use Rattle.std.proofs.lemmas.List.{append-nil}
use Rattle.rtt_base.specs.declared.text_packets.PayloadTypes.{PayloadTypes}
use Rattle.stream_spec.specs.Ready.{chunk_of}
use Rattle.mixer_spec.specs.Setups.{Setup}
use Rattle.mixer_spec.specs.Table.{Admit, Call, Hush, Leave, Offer, Taken, Turn, after_calls, chunks_taken, free_place}
use Rattle.mixer_spec.specs.Calls.{took}
use Rattle.mixer_spec.specs.Legs.{held}
use Rattle.mixer_spec.proofs.Legs.{come_taken}
use Rattle.mix_loop.proofs.Lists.{get_within, lt_or_ge}
use Rattle.link_io.specs.declared.ends.LinkIn as links
use Rattle.stream_spec.specs.Links.{Takes}
use Rattle.live_spec.specs.Told.{Hearing, all_by}
use Rattle.live_spec.specs.Live.{IsOver, Live, at_last, but_last, live_chunks}
use Rattle.live_leg.specs.LinkLegs.{Item, LinkItem, LinkLeg}
use Rattle.live_leg.specs.Items.{fault_in, items_of, signals_in, texts_in}
use Rattle.live_leg.proofs.Pacing.{went_taken}
use Rattle.live_leg.proofs.Texts.{items_append, texts_append}
use Rattle.workers.specs.declared.lanes.Worker.{Worker}
use Rattle.workers.specs.Lanes.{popped_of}
use Rattle.mix_loop.specs.declared.live_ports.LivePort.{LivePort}
use Rattle.mix_loop.specs.Handed.{AreLiveCalls, hand_after}
use Rattle.mix_loop.specs.Walks.{IsClosed, IsServing}
use Rattle.mix_loop.proofs.Others.{other_hand, other_took}
use Rattle.mix_loop.proofs.LiveWalking.{is_and, none_full}
use Rattle.mix_loop.specs.Covers.{Covers}
use Rattle.mix_loop.specs.Laws.{IsAnswered, IsJoined}
use Rattle.mix_loop.proofs.Covering.{covers, covers_by}
use Rattle.mix_loop.proofs.CallFinding.{closed_by_more, closed_ends}
use Rattle.mix_loop.proofs.Following.{runs_to}
use Rattle.stream_spec.proofs.Plain.{get_at as some_there}

pub answered : {L G : Type 0} (g : links.Ghosts L) (first back : LinkLeg L) (started now : Worker LinkItem (LinkLeg L) G) → IsJoined g first back started now → IsAnswered g first back now
answered g first back started now w =
    let c = w.comes first (w.runs first w.starts.runs) in
    record { takes = c.1.so.takes; covers = λ leg. covers g leg first back (items_of (popped_of now ++ c.0)) (items_of (popped_of now)) (items_of c.0) c.1 (items_append (popped_of now) c.0); taken = went_taken g (fault_in (items_of (popped_of now ++ c.0))) first.arrivals back.arrivals c.1.so.takes c.1.so.went }

-- nothing was offered of what is no leg
none_took : (s : Setup) (items : ℕ → List Item) (counts : List (ℕ → ℕ)) (calls : List Call) (i : ℕ) → AreLiveCalls s items counts calls → s.legs ≤ i → (took s i calls ≡ []) × (hand_after s i calls ≡ None)
none_took s items counts [] i l high = (refl, refl)
none_took s items counts (Admit k a ∷ past) i l high =
    let t = after_calls s past in
    let r = none_took s items counts past i l.1 high in
    (ap (λ (y : ℕ → List Taken). chunks_taken (y i)) (come_taken k a t (free_place s t.seats)) ∙ r.0, r.1)
none_took s items counts (Hush k ∷ past) i l high = absurd l
none_took s items counts (Leave k ∷ past) i l high = absurd l
none_took s items counts (Offer c ∷ past) i l high =
    let away : i ≡ c.source → ⊥ = λ e. let low = l.0 in absurd (omega (arith, e, low, high)) in
    let r = none_took s items counts past i l.3 high in
    (other_took s i past c away ∙ r.0, other_hand s i past c away ∙ r.1)
none_took s items counts (Turn now ∷ past) i l high = none_took s items (but_last counts) past i l.1 high

module _ {I M : Type 0} (popped : I → List Item) (stands : M → Setup → (ℕ → PayloadTypes) → List Call → Type 0) where
  abbrev items_at : List (LivePort I) → ℕ → List Item
  items_at [] i = []
  items_at (p ∷ ps) zero = popped p.inlet
  items_at (p ∷ ps) (suc i) = items_at ps i

  items_there : (ps : List (LivePort I)) (i : ℕ) (p : LivePort I) → slice_get ps i ≡ Some p → items_at ps i ≡ popped p.inlet
  items_there [] i p e = absurd (cc e)
  items_there (q ∷ ps) zero p e = let is : q ≡ p = cc e in ap (λ (x : LivePort I). popped x.inlet) is
  items_there (q ∷ ps) (suc i) p e = items_there ps i p e

  items_above : (ps : List (LivePort I)) (i : ℕ) → length ps ≤ i → items_at ps i ≡ []
  items_above [] i high = refl
  items_above (q ∷ ps) zero high = absurd (omega arith)
  items_above (q ∷ ps) (suc i) high = items_above ps i (omega (arith, high))

  none_covers : (h : Hearing) (takes : Takes) (items : List Item) → takes ≡ [] → items ≡ [] → Covers h takes items
  none_covers h takes items e i = subst (λ (l : List Item). Covers h takes l) (sym i) (subst (λ (as' : Takes). Covers h as' []) (sym e) (covers_by h [] [] [] [] refl (all_by h [], refl) [] [] [] [] tt refl refl tt refl))

  -- a live run, and that where it is over nothing is left
  abbrev pub LiveTo : (s : Setup) (payload_types : ℕ → PayloadTypes) (turns : ℕ) (ps : List (LivePort I)) (m : M) → IsServing popped stands s payload_types turns ps m → (ℕ → Hearing) → (ℕ → Takes) → Type 0
  LiveTo s payload_types turns ps m v hears takes =
      (l : Live s hears takes turns (after_calls s v.calls))
      × (IsOver s hears takes (live_chunks hears takes) l.past (at_last l.counts) → IsClosed popped stands s payload_types ps m v.calls)

  pub serving_to : (s : Setup) (payload_types : ℕ → PayloadTypes) (turns : ℕ) (ps : List (LivePort I)) (m : M) (v : IsServing popped stands s payload_types turns ps m) (hears : ℕ → Hearing) (takes : ℕ → Takes)
      → s.legs ≡ length ps → ((i : ℕ) → (hears i).leg ≡ i) → ((i : ℕ) → s.legs ≤ i → takes i ≡ []) → ((j : ℕ) (p : LivePort I) → slice_get ps j ≡ Some p → Covers (hears j) (takes j) (popped p.inlet))
      → LiveTo s payload_types turns ps m v hears takes
  serving_to s payload_types turns ps m v hears takes legs own none all =
      let items : ℕ → List Item = items_at ps in
      let live = v.live items (λ j p e. ([], items_there ps j p e ∙ sym (append-nil (popped p.inlet)))) in
      let texts : (i : ℕ) → texts_in i (items i) ≡ took s i v.calls ++ held (hand_after s i v.calls) = λ i. elim (lt_or_ge i (length ps)) [
        | inl low ↦
            let there = some_there ps i low in
            let a = v.at i there.0 there.1 in
            ap (texts_in i) (items_there ps i there.0 there.1 ∙ a.popped_are)
            ∙ (texts_append i a.before a.tail ∙ (ap (λ cs. cs ++ texts_in i a.tail) a.taken ∙ ap (λ cs. took s i v.calls ++ cs) (a.in_hand ∙ ap held a.hand_is)))
        | inr high ↦
            let r = none_took s items v.counts v.calls i live (omega (arith, legs, high)) in
            ap (texts_in i) (items_above ps i high) ∙ sym (ap (λ cs. cs ++ held (hand_after s i v.calls)) r.0 ∙ ap held r.1)
      ] in
      let covered : (i : ℕ) → Covers (hears i) (takes i) (items i) = λ i. elim (lt_or_ge i (length ps)) [
        | inl low ↦
            let there = some_there ps i low in
            subst (λ (l : List Item). Covers (hears i) (takes i) l) (sym (items_there ps i there.0 there.1)) (all i there.0 there.1)
        | inr high ↦ none_covers (hears i) (takes i) (items i) (none i (omega (arith, legs, high))) (items_above ps i high)
      ] in
      let r = runs_to s hears takes items own covered v.counts v.calls live texts in
      subst (λ (n : ℕ). (l : Live s hears takes n (after_calls s v.calls)) × (IsOver s hears takes (live_chunks hears takes) l.past (at_last l.counts) → IsClosed popped stands s payload_types ps m v.calls)) v.turned (
        r.0,
        λ over.
            let by = r.1 over in
            record {
              ends = λ j p e.
                  let low : j < s.legs = (let k = get_within ps j p e in omega (arith, k, legs)) in
                  let a = v.at j p e in
                  let closed = closed_by_more (at_last v.counts j) (signals_in a.before) (takes j) a.enough (by.closed j low) in
                  let ended = closed_ends (hears j) (takes j) (items j) a.before a.tail (covered j) (items_there ps j p e ∙ a.popped_are) closed in
                  is_and p.ended p.full (a.ended ∙ ended) (none_full p.full (chunk_of p.hand) (a.hand_is ∙ by.empty j low));
              idle = by.idle;
            },
      )

  pub serving : (s : Setup) (payload_types : ℕ → PayloadTypes) (turns : ℕ) (ps : List (LivePort I)) (m : M) (v : IsServing popped stands s payload_types turns ps m) (hears : ℕ → Hearing) (takes : ℕ → Takes)
      → s.legs ≡ length ps → ((i : ℕ) → (hears i).leg ≡ i) → ((i : ℕ) → s.legs ≤ i → takes i ≡ []) → ((j : ℕ) (p : LivePort I) → slice_get ps j ≡ Some p → Covers (hears j) (takes j) (popped p.inlet))
      → Live s hears takes turns (after_calls s v.calls)
  serving s payload_types turns ps m v hears takes legs own none all = (serving_to s payload_types turns ps m v hears takes legs own none all).0
