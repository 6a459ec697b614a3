-- What a leg offers, step by step.
use Rattle.std.proofs.Common.{◌≡◌, ℕ, suc, ◌+◌, ◌≤◌, ◌<◌, true, false, true≢false, inl, inr, ◌⊎◌, ◌||◌, List, [], ◌∷◌, ◌++◌, refl, ap, sym, ◌∙◌, subst, append_assoc, not, arith}
use Rattle.std.specs.Prelude.{Bool}
use Rattle.std.proofs.lemmas.List.{append-nil}
use Rattle.rtt_base.specs.declared.text_packets.PayloadTypes.{PayloadTypes}
use Rattle.stream_spec.specs.Ready.{Chunk, chunk_of}
use Rattle.mixer_spec.specs.Setups.{Setup}
use Rattle.mixer_spec.specs.Table.{Call, Offer, after_calls, has_room}
use Rattle.mix_loop.specs.Addresses.{Address}
use Rattle.mix_loop.specs.Mixers.{Keeps, Offers}
use Rattle.live_spec.specs.Live.{most_takes}
use Rattle.live_leg.specs.LinkLegs.{Item}
use Rattle.live_leg.specs.Items.{Silent, signals_in, text_in}
use Rattle.mix_loop.specs.declared.live_ports.LivePort.{LivePort}
use Rattle.mix_loop.specs.Handed.{EndsSilent, HasSignals, IsEnough, IsNext, has_end, is_blocked_after, is_end}
use Rattle.mix_loop.specs.LivePorts.{Advances, AreNext, Blocks, Gathered, GatheredTo, Goes, GoesOn, Grew, IsGathering, OffersTo, OnlyHand, PortAt, PullsSignal, PullsNothing, PullsText, Retries, Silences, after_offer, with_offers}
use Rattle.mix_loop.proofs.Enough.{fault_before, fault_behind, or_none}
use Rattle.mix_loop.proofs.LiveOffering.{as_enough, blocks, less}
use Rattle.mix_loop.proofs.Pulling.{again_is, next_is, offers_again, pulls_signal, pulls_nothing, pulls_text}

-- whether a turn is blocked or not
enough_any : (blocked : Bool) (n : ℕ) (items : List Item) → n ≤ signals_in items → ((n < signals_in items) × EndsSilent items) ⊎ ((n + most_takes ≤ signals_in items) ⊎ (has_end items ≡ true)) → IsEnough blocked n items
enough_any true n items e w = e
enough_any false n items e w = (e, w)

-- ---- offers one behind the other
pub offers_append : (more offers : List Chunk) (calls : List Call) → with_offers (more ++ offers) calls ≡ with_offers more (with_offers offers calls)
offers_append [] offers calls = refl
offers_append (c ∷ more) offers calls = ap (λ (k : List Call). Offer c ∷ k) (offers_append more offers calls)

next_append : (s : Setup) (i : ℕ) (more offers : List Chunk) (calls : List Call) → AreNext s i more (with_offers offers calls) → AreNext s i offers calls → AreNext s i (more ++ offers) calls
next_append s i [] offers calls a b = b
next_append s i (c ∷ more) offers calls a b = (
  a.0,
  subst (λ (k : List Call). IsNext s c k) (sym (offers_append more offers calls)) a.1,
  next_append s i more offers calls a.2 b,
)

module _ {I M : Type 0} (popped : I → List Item) (stands : M → Setup → (ℕ → PayloadTypes) → List Call → Type 0) where
  -- no offer
  none : (p p' : LivePort I) (m : M) (f : ℕ → ℕ) → ((s : Setup) (calls : List Call) (n : ℕ) → PortAt popped s calls p.leg (HasSignals n) p → PortAt popped s calls p.leg (HasSignals (f n)) p') → Goes f popped stands p p' m m
  none p p' m f g s payload_types calls n made a = record { offers = []; next = tt; made = made; port = g s calls n a }

  pub goes_signal : (p p' : LivePort I) (m : M) (f : ℕ → ℕ) (x : Item) (ended failed : Bool) → ((k : ℕ) → text_in k x ≡ []) → ((n : ℕ) → f n ≤ n + signals_in (x ∷ [])) → ended ≡ (p.ended || is_end x)
      → p.full ≡ false → PullsSignal popped p p' x ended failed → GoesOn f popped stands p p' m m
  goes_signal p p' m f x ended failed t more ends empty w = (w.empty, none p p' m f (λ s calls n a. (pulls_signal popped s calls p.leg n (f n) p p' x ended failed t (more n) ends empty w a).0))

  -- the link had nothing
  pub goes_silent : (p p' : LivePort I) (m : M) → p.full ≡ false → PullsSignal popped p p' Silent p.ended p.failed → (p'.full ≡ false) × Silences suc popped stands p p' m m
  goes_silent p p' m empty w = (
    w.empty,
    λ s payload_types calls n made a.
        let x = pulls_signal popped s calls p.leg n (suc n) p p' Silent p.ended p.failed (λ k. refl) (omega arith) (sym (or_none p.ended)) empty w a in
        record { goes = record { offers = []; next = tt; made = made; port = x.0 }; silent = (a.before ++ a.tail, x.1) },
  )

  -- it said so before the turn, and may have more
  pub silent_goes : (p p' : LivePort I) (m m' : M) → (p'.full ≡ false) × Silences suc popped stands p p' m m' → GoesOn suc popped stands p p' m m'
  silent_goes p p' m m' w = (w.0, λ s payload_types calls n made a. (w.1 s payload_types calls n made a).goes)

  pub goes_nothing : (p p' : LivePort I) (m : M) → p.full ≡ false → PullsNothing popped p p' → GoesOn (λ n. n) popped stands p p' m m
  goes_nothing p p' m empty w = (w.empty, none p p' m (λ n. n) (λ s calls n a. pulls_nothing popped s calls p.leg n p p' empty w a))

  -- one offer
  one : (p p' : LivePort I) (m m' : M) (c : Chunk) (taken : Bool) → c.source ≡ p.leg → Offers stands m m' c taken
      → ((s : Setup) (calls : List Call) (n : ℕ) → PortAt popped s calls p.leg (HasSignals n) p → IsNext s c calls)
      → ((s : Setup) (calls : List Call) (n : ℕ) → taken ≡ has_room s c.source c (after_calls s calls) → PortAt popped s calls p.leg (HasSignals n) p → PortAt popped s (Offer c ∷ calls) p.leg (HasSignals n) p')
      → Goes (λ n. n) popped stands p p' m m'
  one p p' m m' c taken own o next port s payload_types calls n made a =
      let r = o s payload_types calls made in
      record { offers = c ∷ []; next = (own, next s calls n a, tt); made = r.0; port = port s calls n r.1 a }

  one_blocks : (p p' : LivePort I) (m m' : M) (c : Chunk) → c.source ≡ p.leg → Offers stands m m' c false
      → ((s : Setup) (calls : List Call) (n : ℕ) → PortAt popped s calls p.leg (HasSignals n) p → IsNext s c calls)
      → ((s : Setup) (calls : List Call) (n : ℕ) → false ≡ has_room s c.source c (after_calls s calls) → PortAt popped s calls p.leg (HasSignals n) p → PortAt popped s (Offer c ∷ calls) p.leg (HasSignals n) p')
      → Blocks popped stands p p' m m'
  unfolding one
  one_blocks p p' m m' c own o next port s payload_types calls n made a = record {
    goes = one p p' m m' c false own o next port s payload_types calls n made a;
    blocked = blocks s calls c p.leg own (sym (o s payload_types calls made).1);
  }

  pub text_goes : (p q r : LivePort I) (m m' : M) (taken : Bool) → p.full ≡ false → PullsText popped p q → OnlyHand q r → r.full ≡ not taken → Offers stands m m' (chunk_of q.hand) taken
      → Advances popped stands p r m m' (after_offer taken)
  text_goes p q r m m' true empty w only full o = (
    full,
    one p r m m' (chunk_of q.hand) true w.own o (λ s calls n a. next_is popped s calls p.leg n p q empty refl w a)
        (λ s calls n room a. pulls_text popped s calls p.leg n p q r true empty refl w only full room a),
  )
  text_goes p q r m m' false empty w only full o =
      one_blocks p r m m' (chunk_of q.hand) w.own o (λ s calls n a. next_is popped s calls p.leg n p q empty refl w a)
      (λ s calls n room a. pulls_text popped s calls p.leg n p q r false empty refl w only full room a)

  pub hand_goes : (p q : LivePort I) (m m' : M) (taken : Bool) → p.full ≡ true → p.hand.source ≡ p.leg → OnlyHand p q → q.full ≡ not taken → Offers stands m m' (chunk_of p.hand) taken
      → Retries popped stands p q m m' taken
  hand_goes p q m m' true full own only is o = (
    is,
    one p q m m' (chunk_of p.hand) true own o (λ s calls n a. again_is popped s calls p.leg n p full own a)
        (λ s calls n room a. offers_again popped s calls p.leg n p q true full own only is room a),
  )
  hand_goes p q m m' false full own only is o =
      one_blocks p q m m' (chunk_of p.hand) own o (λ s calls n a. again_is popped s calls p.leg n p full own a)
      (λ s calls n room a. offers_again popped s calls p.leg n p q false full own only is room a)

  -- ---- one behind the other
  pub then_goes : (f g : ℕ → ℕ) (p q r : LivePort I) (m m' m'' : M) → q.leg ≡ p.leg → Goes f popped stands p q m m' → Goes g popped stands q r m' m'' → Goes (λ n. g (f n)) popped stands p r m m''
  then_goes f g p q r m m' m'' same a b s payload_types calls n made at =
      let x = a s payload_types calls n made at in
      let y = b s payload_types (with_offers x.offers calls) (f n) x.made (subst (λ (i : ℕ). PortAt popped s (with_offers x.offers calls) i (HasSignals (f n)) q) (sym same) x.port) in
      let j = offers_append y.offers x.offers calls in
      record {
        offers = y.offers ++ x.offers;
        next = next_append s p.leg y.offers x.offers calls (subst (λ (i : ℕ). AreNext s i y.offers (with_offers x.offers calls)) same y.next) x.next;
        made = subst (λ (k : List Call). stands m'' s payload_types k) (sym j) y.made;
        port = subst (λ (k : List Call). PortAt popped s k p.leg (HasSignals (g (f n))) r) (sym j) (subst (λ (i : ℕ). PortAt popped s (with_offers y.offers (with_offers x.offers calls)) i (HasSignals (g (f n))) r) same y.port);
      }

  -- ---- before the turn
  fresh_with : (s : Setup) (payload_types : ℕ → PayloadTypes) (calls : List Call) (i n k : ℕ) (p : LivePort I) (m : M) → n ≤ k → (x : OffersTo popped stands s payload_types calls i k p m)
      → (p.failed ≡ false → IsEnough (is_blocked_after s i (with_offers x.offers calls)) n x.port.before) → GatheredTo popped stands s payload_types calls i n p m
  fresh_with s payload_types calls i n k p m l x f = record {
    offers = x.offers;
    next = x.next;
    made = x.made;
    port = less popped s (with_offers x.offers calls) i n k p l x.port;
    fresh = λ well. as_enough popped s (with_offers x.offers calls) i n (HasSignals k) (IsEnough (is_blocked_after s i (with_offers x.offers calls)) n) p x.port (f well);
  }

  pub gathered_ended : (takes : ℕ) (p q : LivePort I) (m m' : M) → q.ended ≡ true → Goes (λ n. takes + n) popped stands p q m m' → Gathered popped stands p q m m'
  gathered_ended takes p q m m' e a s payload_types calls n made at =
      let x = a s payload_types calls n made at in
      let w = x.port in
      fresh_with s payload_types calls p.leg n (takes + n) q m' (omega arith) x
      (λ _. enough_any (is_blocked_after s p.leg (with_offers x.offers calls)) n w.before (let k : takes + n ≤ signals_in w.before = w.enough in omega (arith, k)) (inr (inr (sym w.ended ∙ e))))

  pub gathered_failed : (takes : ℕ) (p q : LivePort I) (m m' : M) → q.failed ≡ true → Goes (λ n. takes + n) popped stands p q m m' → Gathered popped stands p q m m'
  gathered_failed takes p q m m' e a s payload_types calls n made at =
      let x = a s payload_types calls n made at in
      fresh_with s payload_types calls p.leg n (takes + n) q m' (omega arith) x (λ f. absurd (true≢false (sym e ∙ f)))

  -- it was asked so often
  pub gathered_most : (takes : ℕ) (p q : LivePort I) (m m' : M) → most_takes ≤ takes → Goes (λ n. takes + n) popped stands p q m m' → Gathered popped stands p q m m'
  gathered_most takes p q m m' most a s payload_types calls n made at =
      let x = a s payload_types calls n made at in
      let w = x.port in
      fresh_with s payload_types calls p.leg n (takes + n) q m' (omega arith) x
      (λ _. enough_any (is_blocked_after s p.leg (with_offers x.offers calls)) n w.before (let k : takes + n ≤ signals_in w.before = w.enough in omega (arith, k)) (inr (inl (let k : takes + n ≤ signals_in w.before = w.enough in omega (arith, k, most)))))

  pub gathered_blocked : (p q : LivePort I) (m m' : M) → Blocks popped stands p q m m' → Gathered popped stands p q m m'
  gathered_blocked p q m m' a s payload_types calls n made at =
      let x = a s payload_types calls n made at in
      fresh_with s payload_types calls p.leg n n q m' (omega arith) x.goes
      (λ _. subst (λ (b : Bool). IsEnough b n x.goes.port.before) (sym x.blocked) x.goes.port.enough)

  -- what was so far, and then the link had nothing
  pub gathered_silent : (takes : ℕ) (p q r : LivePort I) (m m' m'' : M) → q.leg ≡ p.leg → Goes (λ n. takes + n) popped stands p q m m' → Silences suc popped stands q r m' m'' → Gathered popped stands p r m m''
  gathered_silent takes p q r m m' m'' same a b s payload_types calls n made at =
      let x = a s payload_types calls n made at in
      let mid = with_offers x.offers calls in
      let y = b s payload_types mid (takes + n) x.made (subst (λ (i : ℕ). PortAt popped s mid i (HasSignals (takes + n)) q) (sym same) x.port) in
      let last = with_offers y.goes.offers mid in
      let j = offers_append y.goes.offers x.offers calls in
      let k : suc (takes + n) ≤ signals_in y.goes.port.before = y.goes.port.enough in
      let fresh : PortAt popped s last q.leg (IsEnough (is_blocked_after s q.leg last) n) r = as_enough popped s last q.leg n (HasSignals (suc (takes + n))) (IsEnough (is_blocked_after s q.leg last) n) r y.goes.port
      (enough_any (is_blocked_after s q.leg last) n y.goes.port.before (omega (arith, k)) (inl (omega (arith, k), y.silent))) in
      record {
        offers = y.goes.offers ++ x.offers;
        next = next_append s p.leg y.goes.offers x.offers calls (subst (λ (i : ℕ). AreNext s i y.goes.offers mid) same y.goes.next) x.next;
        made = subst (λ (c : List Call). stands m'' s payload_types c) (sym j) y.goes.made;
        port = subst (λ (c : List Call). PortAt popped s c p.leg (HasSignals n) r) (sym j)
            (subst (λ (i : ℕ). PortAt popped s last i (HasSignals n) r) same (less popped s last q.leg n (suc (takes + n)) r (omega arith) y.goes.port));
        fresh = λ _. subst (λ (c : List Call). PortAt popped s c p.leg (IsEnough (is_blocked_after s p.leg c) n) r) (sym j)
            (subst (λ (i : ℕ). PortAt popped s last i (IsEnough (is_blocked_after s i last) n) r) same fresh);
      }

  -- what was so far, and then the last text was not taken
  pub then_blocks : (takes : ℕ) (p q r : LivePort I) (m m' m'' : M) → q.leg ≡ p.leg → Goes (λ n. takes + n) popped stands p q m m' → Blocks popped stands q r m' m'' → Blocks popped stands p r m m''
  then_blocks takes p q r m m' m'' same a b s payload_types calls n made at =
      let x = a s payload_types calls n made at in
      let y = b s payload_types (with_offers x.offers calls) (takes + n) x.made (subst (λ (i : ℕ). PortAt popped s (with_offers x.offers calls) i (HasSignals (takes + n)) q) (sym same) x.port) in
      let j = offers_append y.goes.offers x.offers calls in
      record {
        goes = record {
          offers = y.goes.offers ++ x.offers;
          next = next_append s p.leg y.goes.offers x.offers calls (subst (λ (i : ℕ). AreNext s i y.goes.offers (with_offers x.offers calls)) same y.goes.next) x.next;
          made = subst (λ (k : List Call). stands m'' s payload_types k) (sym j) y.goes.made;
          port = subst (λ (k : List Call). PortAt popped s k p.leg (HasSignals n) r) (sym j)
              (less popped s (with_offers y.goes.offers (with_offers x.offers calls)) p.leg n (takes + n) r (omega arith)
              (subst (λ (i : ℕ). PortAt popped s (with_offers y.goes.offers (with_offers x.offers calls)) i (HasSignals (takes + n)) r) same y.goes.port));
        };
        blocked = subst (λ (k : List Call). is_blocked_after s p.leg k ≡ true) (sym j) (subst (λ (i : ℕ). is_blocked_after s i (with_offers y.goes.offers (with_offers x.offers calls)) ≡ true) same y.blocked);
      }

-- ---- what was popped
module _ {I : Type 0} (popped : I → List Item) (began : I → I → Type 0) where
  same_grew_as : (p q : LivePort I) → q.inlet ≡ p.inlet → q.failed ≡ p.failed → Grew popped began p q
  same_grew_as p q inlet failed = record {
    more = [];
    popped_are = ap popped inlet ∙ sym (append-nil (popped p.inlet));
    goes_on = λ first h. subst (λ (k : I). began first k) (sym inlet) h;
    fails = λ e. inl (sym failed ∙ e);
  }

  pub same_grew : (p : LivePort I) → Grew popped began p p
  same_grew p = same_grew_as p p refl refl

  pub hand_grew : (p q : LivePort I) → OnlyHand p q → Grew popped began p q
  hand_grew p q only = same_grew_as p q only.0 only.3

  pub then_grew : (p q r : LivePort I) → Grew popped began p q → Grew popped began q r → Grew popped began p r
  then_grew p q r a b = record {
    more = a.more ++ b.more;
    popped_are = b.popped_are ∙ (ap (λ l. l ++ b.more) a.popped_are ∙ append_assoc (popped p.inlet) a.more b.more);
    goes_on = λ first h. b.goes_on first (a.goes_on first h);
    fails = λ e. elim (b.fails e) [
      | inl f ↦ elim (a.fails f) [
        | inl g ↦ inl g
        | inr g ↦ inr (fault_before a.more b.more g)
      ]
      | inr f ↦ inr (fault_behind a.more b.more f)
    ];
  }

  pub text_grew : (p q r : LivePort I) → Grew popped began p q → OnlyHand q r → Grew popped began p r
  text_grew p q r a only = then_grew p q r a (hand_grew q r only)

-- ---- the loop
module _ {I M : Type 0} (popped : I → List Item) (began : I → I → Type 0) (stands : M → Setup → (ℕ → PayloadTypes) → List Call → Type 0) (legs turns : M → ℕ) (addresses : M → List Address) where
  pub begins : (p q : LivePort I) (m m' : M) → q.leg ≡ p.leg → Grew popped began p q → Keeps legs turns addresses m m' → GoesOn (λ n. n) popped stands p q m m' → IsGathering popped began stands legs turns addresses 0 p q m m'
  begins p q m m' same grew keeps w = record {
    empty = w.0;
    same = same;
    grew = grew;
    keeps = keeps;
    goes = λ s payload_types calls n made at.
        let x = w.1 s payload_types calls n made at in
        record { offers = x.offers; next = x.next; made = x.made; port = less popped s (with_offers x.offers calls) p.leg (0 + n) n q (omega arith) x.port };
  }

  keeps_then : (m m' m'' : M) → Keeps legs turns addresses m m' → Keeps legs turns addresses m' m'' → Keeps legs turns addresses m m''
  keeps_then m m' m'' a b = record { legs = b.legs ∙ a.legs; turns = b.turns ∙ a.turns; addresses = b.addresses ∙ a.addresses }

  pub goes_still : (takes : ℕ) (p q r : LivePort I) (m m' m'' : M) → IsGathering popped began stands legs turns addresses takes p q m m' → r.leg ≡ q.leg → Grew popped began q r → Keeps legs turns addresses m' m''
      → GoesOn (λ n. n) popped stands q r m' m'' → IsGathering popped began stands legs turns addresses takes p r m m''
  goes_still takes p q r m m' m'' a same grew keeps w = record {
    empty = w.0;
    same = same ∙ a.same;
    grew = then_grew popped began p q r a.grew grew;
    keeps = keeps_then m m' m'' a.keeps keeps;
    goes = then_goes popped stands (λ n. takes + n) (λ n. n) p q r m m' m'' a.same a.goes w.1;
  }

  -- the leg has said once more that all was given
  pub goes_seen : (takes : ℕ) (p q r : LivePort I) (m m' m'' : M) → IsGathering popped began stands legs turns addresses takes p q m m' → r.leg ≡ q.leg → Grew popped began q r → Keeps legs turns addresses m' m''
      → GoesOn suc popped stands q r m' m'' → IsGathering popped began stands legs turns addresses (takes + 1) p r m m''
  goes_seen takes p q r m m' m'' a same grew keeps w = record {
    empty = w.0;
    same = same ∙ a.same;
    grew = then_grew popped began p q r a.grew grew;
    keeps = keeps_then m m' m'' a.keeps keeps;
    goes = λ s payload_types calls n made at.
        let x = then_goes popped stands (λ n. takes + n) suc p q r m m' m'' a.same a.goes w.1 s payload_types calls n made at in
        record { offers = x.offers; next = x.next; made = x.made; port = less popped s (with_offers x.offers calls) p.leg (takes + 1 + n) (suc (takes + n)) r (omega arith) x.port };
  }

  pub all_silent : (takes : ℕ) (p q r : LivePort I) (m m' m'' : M) → IsGathering popped began stands legs turns addresses takes p q m m' → Silences suc popped stands q r m' m'' → Gathered popped stands p r m m''
  all_silent takes p q r m m' m'' a b = gathered_silent popped stands takes p q r m m' m'' a.same a.goes b

  pub all_blocked : (takes : ℕ) (p q r : LivePort I) (m m' m'' : M) → IsGathering popped began stands legs turns addresses takes p q m m' → Blocks popped stands q r m' m'' → Gathered popped stands p r m m''
  all_blocked takes p q r m m' m'' a b = gathered_blocked popped stands p r m m'' (then_blocks popped stands takes p q r m m' m'' a.same a.goes b)
