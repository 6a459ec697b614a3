-- One leg after the other offers, and then a turn is made.
use Rattle.std.proofs.Common.{◌≡◌, ◌<◌, ◌≤◌, ◌+◌, ◌*◌, ◌^◌, ℕ, suc, true, false, true≢false, inl, inr, cond, Some, None, List, [], ◌∷◌, ◌++◌, length, set, refl, ap, sym, subst, ◌∙◌, append_assoc, arith}
use Rattle.std.specs.Prelude.{Bool, ◌&&◌, not, if◌then◌else◌, slice_get, zero}
use Rattle.std.specs.List.{list_all}
use Rattle.std.proofs.lemmas.Bool.{cases_eq}
use Rattle.rtt_base.specs.declared.text_packets.PayloadTypes.{PayloadTypes}
use Rattle.stream_spec.specs.Ready.{Chunk, chunk_of}
use Rattle.mixer_spec.specs.Setups.{Setup}
use Rattle.mixer_spec.specs.Table.{Admit, Call, Hush, Leave, Offer, Seats, Table, Turn, after_calls, given, has_room, is_seated}
use Rattle.mixer_spec.specs.Calls.{turns_made}
use Rattle.mix_loop.specs.Mixers.{TellsIdle, Turns}
use Rattle.mix_loop.proofs.Lists.{get_set_other, get_within}
use Rattle.live_spec.specs.Live.{AllSeated, at_last}
use Rattle.live_leg.specs.LinkLegs.{Item}
use Rattle.live_leg.specs.Items.{signals_in}
use Rattle.mix_loop.specs.declared.live_ports.LivePort.{LivePort}
use Rattle.mix_loop.specs.Clocks.{AtTicks, RiseTo, moments_of}
use Rattle.mix_loop.specs.Order.{SameTurns}
use Rattle.mix_loop.specs.Handed.{AreLiveCalls, HasSignals, IsEnough, IsNext, is_blocked_after}
use Rattle.mix_loop.specs.LivePorts.{AreNext, Gathered, Grew, PortAt, with_offers}
use Rattle.mix_loop.specs.Walks.{AllGrew, AllNext, AreAt, AreOf, HasFailed, IsServing, MayBeTurned, NoneFailed, NoneFailedBelow, WalkedTo, is_spent}
use Rattle.mix_loop.proofs.Advancing.{offers_append, same_grew, then_grew}
use Rattle.mix_loop.proofs.Others.{others_at, others_blocked}
use Rattle.mix_loop.proofs.Ordering.{ups_same}
use Rattle.stream_spec.proofs.Plain.{get_set_same, get_at as some_there}

-- ---- offers
all_append : (s : Setup) (i : ℕ) (more offers : List Chunk) (calls : List Call) → i < s.legs → AreNext s i more (with_offers offers calls) → AllNext s offers calls → AllNext s (more ++ offers) calls
all_append s i [] offers calls low a b = b
all_append s i (c ∷ more) offers calls low a b = (subst (λ (n : ℕ). n < s.legs) (sym a.0) low, subst (λ (k : List Call). IsNext s c k) (sym (offers_append more offers calls)) a.1, all_append s i more offers calls low a.2 b)

turns_same : (offers : List Chunk) (calls : List Call) → turns_made (with_offers offers calls) ≡ turns_made calls
turns_same [] calls = refl
turns_same (c ∷ offers) calls = turns_same offers calls

moments_same : (offers : List Chunk) (calls : List Call) → moments_of (with_offers offers calls) ≡ moments_of calls
moments_same [] calls = refl
moments_same (c ∷ offers) calls = moments_same offers calls

moments_long : (calls : List Call) → length (moments_of calls) ≡ turns_made calls
moments_long [] = refl
moments_long (Admit i l ∷ past) = moments_long past
moments_long (Hush i ∷ past) = moments_long past
moments_long (Leave i ∷ past) = moments_long past
moments_long (Offer c ∷ past) = moments_long past
moments_long (Turn now ∷ past) = ap suc (moments_long past)

-- before the first turn there is no moment
pub at_none : (tick began until : ℕ) (calls : List Call) → turns_made calls ≡ 0 → AtTicks tick began (moments_of calls) × RiseTo until (moments_of calls)
at_none tick began until calls none = go (moments_of calls) (moments_long calls ∙ none)
  where
    go : (ms : List ℕ) → length ms ≡ 0 → AtTicks tick began ms × RiseTo until ms
    go [] e = (tt, tt)
    go (m ∷ ms) e = absurd (omega (arith, e))

-- the clock may go on
pub rise_on : (old new : ℕ) (ms : List ℕ) → old ≤ new → RiseTo old ms → RiseTo new ms
rise_on old new [] on r = tt
rise_on old new (m ∷ ms) on r = (let low = r.0 in omega (arith, low, on), r.1)

-- then one more, which the clock told behind the moment of the last
pub at_more : (tick began k last now until : ℕ) (calls next : List Call) → next ≡ Turn now ∷ calls → turns_made calls ≡ k → (began + k * tick < 2 ^ 47 → began + k * tick ≤ now)
    → last ≤ now → now ≤ until → AtTicks tick began (moments_of calls) × RiseTo last (moments_of calls) → AtTicks tick began (moments_of next) × RiseTo until (moments_of next)
at_more tick began k last now until calls next is turned late on most at =
    subst (λ (cs : List Call). AtTicks tick began (moments_of cs) × RiseTo until (moments_of cs)) (sym is)
    ((subst (λ (n : ℕ). began + n * tick < 2 ^ 47 → began + n * tick ≤ now) (sym (moments_long calls ∙ turned)) late, at.0), (most, rise_on last now (moments_of calls) on at.1))

seats_same : (s : Setup) (offers : List Chunk) (calls : List Call) → (after_calls s (with_offers offers calls)).seats ≡ (after_calls s calls).seats
seats_same s [] calls = refl
seats_same s (c ∷ offers) calls = go (has_room s c.source c (after_calls s (with_offers offers calls))) ∙ seats_same s offers calls
  where
    go : (b : Bool) → (cond {A = Table} b (given c.source c (after_calls s (with_offers offers calls))) (after_calls s (with_offers offers calls))).seats ≡ (after_calls s (with_offers offers calls)).seats
    go true = refl
    go false = refl

seated_still : (s : Setup) (offers : List Chunk) (calls : List Call) → AllSeated s (after_calls s calls) → AllSeated s (after_calls s (with_offers offers calls))
seated_still s offers calls seated j low = ap (λ (seats : Seats). is_seated seats j) (seats_same s offers calls) ∙ seated j low

live_offers : (s : Setup) (items : ℕ → List Item) (counts : List (ℕ → ℕ)) (offers : List Chunk) (calls : List Call) → AllSeated s (after_calls s calls) → AllNext s offers calls
    → AreLiveCalls s items counts calls → AreLiveCalls s items counts (with_offers offers calls)
live_offers s items counts [] calls seated a l = l
live_offers s items counts (c ∷ offers) calls seated a l = (a.0, a.1, seated_still s offers calls seated, live_offers s items counts offers calls seated a.2 l)

-- ---- ports
pub is_and : (a b : Bool) → a ≡ true → b ≡ false → (a && not b) ≡ true
is_and true true a b = absurd (true≢false b)
is_and true false a b = refl
is_and false b a e = absurd (true≢false (sym a))

-- a count in front of others
abbrev put_first : ℕ → (ℕ → ℕ) → ℕ → ℕ
put_first n f zero = n
put_first n f (suc j) = f j

-- a count for each
counts_for : {X : Type 0} (xs : List X) (Q : ℕ → X → ℕ → Type 0) → ((j : ℕ) (x : X) → slice_get xs j ≡ Some x → (n : ℕ) × Q j x n)
    → (f : ℕ → ℕ) × ((j : ℕ) (x : X) → slice_get xs j ≡ Some x → Q j x (f j))
counts_for [] Q h = (λ j. 0, λ j x e. absurd (cc e))
counts_for {X} (y ∷ xs) Q h = (put_first (h zero y refl).0 (counts_for xs (λ j. Q (suc j)) (λ j x e. h (suc j) x e)).0, at (h zero y refl) (counts_for xs (λ j. Q (suc j)) (λ j x e. h (suc j) x e)))
  where
    at : (first : (n : ℕ) × Q zero y n) (rest : (f : ℕ → ℕ) × ((j : ℕ) (x : X) → slice_get xs j ≡ Some x → Q (suc j) x (f j)))
        → (j : ℕ) (x : X) → slice_get (y ∷ xs) j ≡ Some x → Q j x (put_first first.0 rest.0 j)
    at first rest zero x e = let is : y ≡ x = cc e in subst (λ (z : X). Q zero z first.0) is first.1
    at first rest (suc j) x e = rest.1 j x e

pub all_true : {X : Type 0} (f : X → Bool) (xs : List X) → ((j : ℕ) (x : X) → slice_get xs j ≡ Some x → f x ≡ true) → list_all f xs ≡ true
all_true f [] a = refl
all_true f (y ∷ xs) a = ap (λ b. b && list_all f xs) (a zero y refl) ∙ all_true f xs (λ j x e. a (suc j) x e)

pub none_full : (b : Bool) (c : Chunk) → (if b then Some c else None) ≡ None → b ≡ false
none_full true c e = absurd (cc e)
none_full false c e = refl

module _ {I : Type 0} where
  pub at_set : (ps : List (LivePort I)) (i : ℕ) (q : LivePort I) → AreAt ps → i < length ps → q.leg ≡ i → AreAt (set ps i q)
  at_set ps i q a low here j r e = elim (cases_eq j i) [
    | inl same ↦
        let same_port : Some q ≡ Some r = sym (get_set_same ps i q low) ∙ (ap (slice_get (set ps i q)) (sym same) ∙ e) in
        let is : q ≡ r = cc same_port in
        ap (λ (p : LivePort I). p.leg) (sym is) ∙ (here ∙ sym same)
    | inr other ↦ a j r (sym (get_set_other ps i q j other) ∙ e)
  ]

  -- a fault was popped of this leg, and of none below it
  pub one_failed : (ps : List (LivePort I)) (i : ℕ) (q : LivePort I) → AreAt ps → slice_get ps i ≡ Some q → q.failed ≡ true → NoneFailedBelow i ps → HasFailed q.leg ps
  one_failed ps i q a at failed below = (q, ap (slice_get ps) (a i q at) ∙ at, failed, subst (λ (n : ℕ). NoneFailedBelow n ps) (sym (a i q at)) below)

  -- or of none of the first legs, and not of one more
  pub none_failed : (ps : List (LivePort I)) (i : ℕ) (q : LivePort I) → slice_get ps i ≡ Some q → q.failed ≡ false → NoneFailedBelow i ps → NoneFailedBelow (i + 1) ps
  none_failed ps i q at well below j p low e = elim (cases_eq j i) [
    | inl same ↦
        let is : Some q ≡ Some p = sym at ∙ (ap (slice_get ps) (sym same) ∙ e) in
        let port : q ≡ p = cc is in
        ap (λ (x : LivePort I). x.failed) (sym port) ∙ well
    | inr other ↦ below j p (omega (arith, low, other)) e
  ]

module _ {I : Type 0} (popped : I → List Item) (began : I → I → Type 0) where
  pub none_grew : (ps : List (LivePort I)) → AllGrew popped began ps ps
  none_grew ps j p e = (p, e, same_grew popped began p)

  pub one_grew : (first ps : List (LivePort I)) (i : ℕ) (p q : LivePort I) → slice_get ps i ≡ Some p → Grew popped began p q → AllGrew popped began first ps → AllGrew popped began first (set ps i q)
  one_grew first ps i p q at g all j x e =
      let now = all j x e in
      elim (cases_eq j i) [
        | inl same ↦
            let is : Some p ≡ Some now.0 = sym at ∙ (ap (slice_get ps) (sym same) ∙ now.1) in
            let port : p ≡ now.0 = cc is in
            (q, ap (slice_get (set ps i q)) same ∙ get_set_same ps i q (get_within ps i p at), then_grew popped began x now.0 q now.2 (subst (λ (y : LivePort I). Grew popped began y q) port g))
        | inr other ↦ (now.0, get_set_other ps i q j other ∙ now.1, now.2)
      ]

  pub all_then_grew : (first ps qs : List (LivePort I)) → AllGrew popped began first ps → AllGrew popped began ps qs → AllGrew popped began first qs
  all_then_grew first ps qs a b j x e =
      let y = a j x e in
      let z = b j y.0 y.1 in
      (z.0, z.1, then_grew popped began x y.0 z.0 y.2 z.2)

  of_before : (ps ps' : List (LivePort I)) (items : ℕ → List Item) → AllGrew popped began ps ps' → AreOf popped ps' items → AreOf popped ps items
  of_before ps ps' items g a j p e =
      let now = g j p e in
      let is = a j now.0 now.1 in
      (now.2.more ++ is.0, is.1 ∙ (ap (λ l. l ++ is.0) now.2.popped_are ∙ append_assoc (popped p.inlet) now.2.more is.0))

  module _ {M : Type 0} (stands : M → Setup → (ℕ → PayloadTypes) → List Call → Type 0) where
    pub walk_none : (s : Setup) (payload_types : ℕ → PayloadTypes) (calls : List Call) (last : ℕ → ℕ) (ps : List (LivePort I)) (m : M) → stands m s payload_types calls
        → ((j : ℕ) (p : LivePort I) → slice_get ps j ≡ Some p → PortAt popped s calls j (HasSignals (last j)) p) → WalkedTo popped stands s payload_types calls last 0 ps m
    walk_none s payload_types calls last ps m made at = record { offers = []; next = tt; made = made; at = at; fresh = λ j p low. absurd (omega arith) }

    pub walk_more : (s : Setup) (payload_types : ℕ → PayloadTypes) (calls : List Call) (last : ℕ → ℕ) (i : ℕ) (ps : List (LivePort I)) (m m' : M) (p q : LivePort I) → i < s.legs → slice_get ps i ≡ Some p → p.leg ≡ i → Gathered popped stands p q m m'
        → WalkedTo popped stands s payload_types calls last i ps m → WalkedTo popped stands s payload_types calls last (i + 1) (set ps i q) m'
    walk_more s payload_types calls last i ps m m' p q few e here gathered w =
        let before = with_offers w.offers calls in
        let n = last i in
        let x = gathered s payload_types before n w.made (subst (λ (k : ℕ). PortAt popped s before k (HasSignals n) p) (sym here) (w.at i p e)) in
        let low = get_within ps i p e in
        let next : AreNext s i x.offers before = subst (λ (k : ℕ). AreNext s k x.offers before) here x.next in
        let after = with_offers x.offers before in
        let all : with_offers (x.offers ++ w.offers) calls ≡ after = offers_append x.offers w.offers calls in
        record {
          offers = x.offers ++ w.offers;
          next = all_append s i x.offers w.offers calls few next w.next;
          made = subst (λ (k : List Call). stands m' s payload_types k) (sym all) x.made;
          at = λ j r there. subst (λ (k : List Call). PortAt popped s k j (HasSignals (last j)) r) (sym all) (elim (cases_eq j i) [
            | inl same ↦
                let is : Some q ≡ Some r = sym (get_set_same ps i q low) ∙ (ap (slice_get (set ps i q)) (sym same) ∙ there) in
                let port : q ≡ r = cc is in
                subst (λ (y : LivePort I). PortAt popped s after j (HasSignals (last j)) y) port (subst (λ (k : ℕ). PortAt popped s after k (HasSignals (last k)) q) (sym same) (subst (λ (k : ℕ). PortAt popped s after k (HasSignals n) q) here x.port))
            | inr other ↦ others_at s j popped i (HasSignals (last j)) r x.offers before other next (w.at j r (sym (get_set_other ps i q j other) ∙ there))
          ]);
          fresh = λ j r lower there well. subst (λ (k : List Call). PortAt popped s k j (IsEnough (is_blocked_after s j k) (last j)) r) (sym all) (elim (cases_eq j i) [
            | inl same ↦
                let is : Some q ≡ Some r = sym (get_set_same ps i q low) ∙ (ap (slice_get (set ps i q)) (sym same) ∙ there) in
                let port : q ≡ r = cc is in
                let f = x.fresh (ap (λ (y : LivePort I). y.failed) port ∙ well) in
                subst (λ (y : LivePort I). PortAt popped s after j (IsEnough (is_blocked_after s j after) (last j)) y) port
                (subst (λ (k : ℕ). PortAt popped s after k (IsEnough (is_blocked_after s k after) (last k)) q) (sym same) (subst (λ (k : ℕ). PortAt popped s after k (IsEnough (is_blocked_after s k after) n) q) here f))
            | inr other ↦
                let f = w.fresh j r (omega (arith, lower, other)) (sym (get_set_other ps i q j other) ∙ there) well in
                subst (λ (b : Bool). PortAt popped s after j (IsEnough b (last j)) r) (sym (others_blocked s j i x.offers before other next))
                (others_at s j popped i (IsEnough (is_blocked_after s j before) (last j)) r x.offers before other next f)
          ]);
        }

    -- all legs offered what they could
    pub walked : (s : Setup) (payload_types : ℕ → PayloadTypes) (turns : ℕ) (ps ps' : List (LivePort I)) (m m' : M) → AllGrew popped began ps ps' → (v : IsServing popped stands s payload_types turns ps m)
        → WalkedTo popped stands s payload_types v.calls (at_last v.counts) (length ps') ps' m' → (w : MayBeTurned popped stands s payload_types turns ps' m') × SameTurns v.calls w.serving.calls
    walked s payload_types turns ps ps' m m' grew v w =
        let now = with_offers w.offers v.calls in (
          record {
            serving = record {
              calls = now;
              counts = v.counts;
              made = w.made;
              live = λ items a. live_offers s items v.counts w.offers v.calls v.seated w.next (v.live items (of_before ps ps' items grew a));
              turned = turns_same w.offers v.calls ∙ v.turned;
              seated = seated_still s w.offers v.calls v.seated;
              at = w.at;
            };
            fresh = λ j p e well. w.fresh j p (get_within ps' j p e) e well;
          },
          record { moments = moments_same w.offers v.calls; up_to = ups_same w.offers v.calls },
        )

    -- a turn was made, where not all legs have ended with an empty hand while the mixer is idle
    pub turn_made : (s : Setup) (payload_types : ℕ → PayloadTypes) (turns now : ℕ) (ps : List (LivePort I)) (m m' : M) → s.legs ≡ length ps → NoneFailed ps → Turns stands m m' now → (list_all is_spent ps ≡ true → TellsIdle stands m false)
        → (v : MayBeTurned popped stands s payload_types turns ps m) → (w : IsServing popped stands s payload_types (turns + 1) ps m') × (w.calls ≡ Turn now ∷ v.serving.calls)
    turn_made s payload_types turns now ps m m' legs well t busy v =
        let w = v.serving in
        let IsPort : ℕ → LivePort I → Type 0 = λ j p. PortAt popped s w.calls j (IsEnough (is_blocked_after s j w.calls) (at_last w.counts j)) p in
        let c = counts_for ps (λ j p n. (f : IsPort j p) × (n ≡ signals_in f.before)) (λ j p e. let f = v.fresh j p e (well j p e) in (signals_in f.before, (f, refl))) in
        let there : (i : ℕ) → i < s.legs → (p : LivePort I) × (slice_get ps i ≡ Some p) = λ i low. some_there ps i (omega (arith, low, legs)) in (
          record {
            calls = Turn now ∷ w.calls;
            counts = c.0 ∷ w.counts;
            made = t s payload_types w.calls w.made;
            live = λ items a. (
              record {
                each = λ i low.
                    let f = c.1 i (there i low).0 (there i low).1 in
                    let is = a i (there i low).0 (there i low).1 in
                    record {
                      given = f.0.before;
                      more = f.0.tail ++ is.0;
                      items_are = is.1 ∙ (ap (λ l. l ++ is.0) f.0.popped_are ∙ append_assoc f.0.before f.0.tail is.0);
                      taken = f.0.taken;
                      count = f.1;
                      enough = f.0.enough;
                      seated = w.seated i low;
                    };
                goes_on = λ h idle.
                    let spent : list_all is_spent ps ≡ true = all_true is_spent ps (λ j p e.
                    let low : j < s.legs = (let k = get_within ps j p e in omega (arith, k, legs)) in
                    let f = c.1 j (there j low).0 (there j low).1 in
                    let x = h j low in
                    let is : (there j low).0 ≡ p = cc (sym (there j low).1 ∙ e) in
                    subst (λ (q : LivePort I). is_spent q ≡ true) is (is_and (there j low).0.ended (there j low).0.full (f.0.ended ∙ x.0) (none_full (there j low).0.full (chunk_of (there j low).0.hand) (f.0.hand_is ∙ x.1)))) in
                    true≢false (sym idle ∙ sym (busy spent s payload_types w.calls w.made));
              },
              w.live items a,
            );
            turned = ap suc w.turned ∙ omega arith;
            seated = λ j low. w.seated j low;
            at = λ j p e.
                let f = c.1 j p e in
                let n : c.0 j ≡ signals_in f.0.before = f.1 in
                record {
                  before = f.0.before;
                  tail = f.0.tail;
                  popped_are = f.0.popped_are;
                  taken = f.0.taken;
                  in_hand = f.0.in_hand;
                  hand_is = f.0.hand_is;
                  ended = f.0.ended;
                  goes_on = f.0.goes_on;
                  enough = omega (arith, n);
                };
          },
          refl,
        )

    -- a mixer of which something else is known by its calls
    pub becomes : (meets : M → Setup → (ℕ → PayloadTypes) → List Call → Type 0) (s : Setup) (payload_types : ℕ → PayloadTypes) (turns : ℕ) (ps : List (LivePort I)) (m m' : M) (v : IsServing popped stands s payload_types turns ps m) → meets m' s payload_types v.calls
        → (w : IsServing popped meets s payload_types turns ps m') × (w.calls ≡ v.calls)
    becomes meets s payload_types turns ps m m' v made = (record { calls = v.calls; counts = v.counts; made = made; live = v.live; turned = v.turned; seated = v.seated; at = v.at }, refl)
