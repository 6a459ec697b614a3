-- Items are popped of a leg.
use Rattle.std.proofs.Common.{◌≡◌, ℕ, ◌+◌, ◌≤◌, true, false, inl, inr, ◌||◌, Some, None, List, [], ◌∷◌, ◌++◌, refl, ap, sym, ◌∙◌, not, arith}
use Rattle.std.specs.Prelude.{Bool, if◌then◌else◌}
use Rattle.std.proofs.lemmas.List.{append-nil}
use Rattle.stream_spec.specs.Ready.{Chunk, chunk_of}
use Rattle.mixer_spec.specs.Setups.{Setup}
use Rattle.mixer_spec.specs.Table.{Call, Offer, after_calls, has_room}
use Rattle.mixer_spec.specs.Calls.{took}
use Rattle.mixer_spec.specs.Legs.{held}
use Rattle.live_leg.specs.Items as item
use Rattle.live_leg.specs.LinkLegs.{Item}
use Rattle.live_leg.specs.Items.{signals_in, text_in, texts_in}
use Rattle.live_leg.proofs.Texts.{texts_append, texts_same}
use Rattle.mix_loop.specs.declared.live_ports.LivePort.{LivePort}
use Rattle.mix_loop.specs.Handed.{HasSignals, IsNext, hand_after, has_end, is_end}
use Rattle.mix_loop.specs.LivePorts.{OnlyHand, PortAt, PullsSignal, PullsNothing, PullsText, hand_of}
use Rattle.mix_loop.proofs.Enough.{end_both, end_none, signals_more, or_none}
use Rattle.mix_loop.proofs.LiveOffering.{offered_at}

-- an item with a text is not the end
text_goes : (i : ℕ) (x : Item) (c : Chunk) → text_in i x ≡ c ∷ [] → is_end x ≡ false
text_goes i (item.Text ready octets) c e = refl
text_goes i item.Seen c e = refl
text_goes i item.Silent c e = refl
text_goes i item.End c e = absurd (cc e)
text_goes i (item.Fault why) c e = refl

module _ {I : Type 0} (popped : I → List Item) (s : Setup) (calls : List Call) (i n : ℕ) where
  pub none_in : (p : LivePort I) → p.full ≡ false → hand_of p ≡ None
  none_in p e = ap (λ b. if b then Some (chunk_of p.hand) else None) e

  -- of a port with an empty hand all texts were taken
  all_taken : (p : LivePort I) → p.full ≡ false → (a : PortAt popped s calls i (HasSignals n) p) → texts_in i (a.before ++ a.tail) ≡ took s i calls
  all_taken p e a = texts_append i a.before a.tail ∙ (ap (λ cs. texts_in i a.before ++ cs) (a.in_hand ∙ ap held (none_in p e)) ∙ (append-nil (texts_in i a.before) ∙ a.taken))

  pub pulls_signal : (m : ℕ) (p q : LivePort I) (x : Item) (ended failed : Bool) → ((k : ℕ) → text_in k x ≡ []) → m ≤ n + signals_in (x ∷ []) → ended ≡ (p.ended || is_end x)
      → p.full ≡ false → PullsSignal popped p q x ended failed → (a : PortAt popped s calls i (HasSignals n) p) → (b : PortAt popped s calls i (HasSignals m) q) × (b.before ≡ (a.before ++ a.tail) ++ x ∷ [])
  pulls_signal m p q x ended failed none more ends empty w a =
      let all = a.before ++ a.tail in (
        record {
          before = all ++ x ∷ [];
          tail = [];
          popped_are = w.more ∙ (ap (λ l. l ++ x ∷ []) a.popped_are ∙ sym (append-nil (all ++ x ∷ [])));
          taken = texts_same i all x (none i) ∙ all_taken p empty a;
          in_hand = ap held (sym (none_in q w.empty));
          hand_is = none_in q w.empty ∙ (sym (none_in p empty) ∙ a.hand_is);
          ended = w.ends
              ∙ (ends
              ∙ (ap (λ b. b || is_end x) (a.ended ∙ sym (end_none a.before a.tail a.goes_on))
              ∙ (ap (λ b. has_end all || b) (sym (or_none (is_end x))) ∙ sym (end_both all (x ∷ [])))));
          goes_on = refl;
          enough = signals_more n m all (x ∷ []) more (signals_more n n a.before a.tail (omega arith) a.enough);
        },
        refl,
      )

  pub pulls_nothing : (p q : LivePort I) → p.full ≡ false → PullsNothing popped p q → PortAt popped s calls i (HasSignals n) p → PortAt popped s calls i (HasSignals n) q
  pulls_nothing p q empty w a = record {
    before = a.before;
    tail = a.tail;
    popped_are = w.same ∙ a.popped_are;
    taken = a.taken;
    in_hand = a.in_hand ∙ ap held (none_in p empty ∙ sym (none_in q w.empty));
    hand_is = none_in q w.empty ∙ (sym (none_in p empty) ∙ a.hand_is);
    ended = w.ends ∙ a.ended;
    goes_on = a.goes_on;
    enough = a.enough;
  }

  -- a text was popped, and offered
  pub pulls_text : (p q r : LivePort I) (taken : Bool) → p.full ≡ false → i ≡ p.leg → PullsText popped p q → OnlyHand q r → r.full ≡ not taken → taken ≡ has_room s (chunk_of q.hand).source (chunk_of q.hand) (after_calls s calls)
      → PortAt popped s calls i (HasSignals n) p → PortAt popped s (Offer (chunk_of q.hand) ∷ calls) i (HasSignals n) r
  pulls_text p q r taken empty here w only full room a =
      let all = a.before ++ a.tail in
      offered_at popped s calls i n (chunk_of q.hand) all (w.item ∷ []) r taken (w.own ∙ sym here)
      (ap popped only.0 ∙ (w.more ∙ ap (λ l. l ++ w.item ∷ []) a.popped_are)) (all_taken p empty a) (append-nil (text_in i w.item) ∙ w.text i here) only.4 full room
      (only.2 ∙ (w.ends ∙ (a.ended ∙ sym (end_none a.before a.tail a.goes_on)))) (or_none (is_end w.item) ∙ text_goes i w.item (chunk_of q.hand) (w.text i here)) (signals_more n n a.before a.tail (omega arith) a.enough)

  -- before that the hand was empty
  pub next_is : (p q : LivePort I) → p.full ≡ false → i ≡ p.leg → PullsText popped p q → PortAt popped s calls i (HasSignals n) p → IsNext s (chunk_of q.hand) calls
  next_is p q empty here w a = inl (ap (λ k. hand_after s k calls) (w.own ∙ sym here) ∙ (sym a.hand_is ∙ none_in p empty))

  some_in : (p : LivePort I) → p.full ≡ true → hand_of p ≡ Some (chunk_of p.hand)
  some_in p e = ap (λ b. if b then Some (chunk_of p.hand) else None) e

  -- what was in hand is offered again
  pub offers_again : (p q : LivePort I) (taken : Bool) → p.full ≡ true → p.hand.source ≡ i → OnlyHand p q → q.full ≡ not taken → taken ≡ has_room s (chunk_of p.hand).source (chunk_of p.hand) (after_calls s calls)
      → PortAt popped s calls i (HasSignals n) p → PortAt popped s (Offer (chunk_of p.hand) ∷ calls) i (HasSignals n) q
  offers_again p q taken full own only is room a =
      offered_at popped s calls i n (chunk_of p.hand) a.before a.tail q taken own
      (ap popped only.0 ∙ a.popped_are) a.taken (a.in_hand ∙ ap held (some_in p full)) only.4 is room (only.2 ∙ a.ended) a.goes_on a.enough

  pub again_is : (p : LivePort I) → p.full ≡ true → p.hand.source ≡ i → PortAt popped s calls i (HasSignals n) p → IsNext s (chunk_of p.hand) calls
  again_is p full own a = inr (ap (λ k. hand_after s k calls) own ∙ (sym a.hand_is ∙ some_in p full))
