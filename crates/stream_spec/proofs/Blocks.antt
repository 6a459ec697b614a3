-- The blocks of `kept`: they rise, and stand exactly where a carrier came.
use Rattle.std.proofs.Common.{◌≡◌, ℕ, ◌<◌, ◌≤◌, Bool, true, false, cond, inl, inr, Option, Some, None, List, [], ◌∷◌, ◌++◌, refl, ap, subst, sym, ◌∙◌, arith}
use Rattle.std.specs.Prelude.{filter, ◌↔◌, ◌&&◌, ◌==◌, nat_lt, nat_le, if◌then◌else◌}
use Rattle.std.proofs.lemmas.Bool.{cases_lt, cases_order, eq-eqb, eqb-true, leb-true, ltb-true, lt-ltb, le-leb, and_parts, and_from}
use Rattle.wire_spec.specs.Packets.{has_text}
use Rattle.stream_spec.specs.Lists.{In}
use Rattle.stream_spec.specs.History.{Entry, Placed, History, placed, low, window, Lawful}
use Rattle.stream_spec.specs.Kept.{Item, Marker, Block, blocks_of, items_of, has_marker, kept_over, kept, is_above, is_entry_of, Rising, ArePlaces, IsCarrier, IsCarried, blocks_in, has_place, least_place}
use Rattle.stream_spec.proofs.Lists.{in_left, in_right, in_append, in_filter, filter_in, in_when, when_in}
use Rattle.stream_spec.proofs.Places.{place_from, index_rises, place_rises, same_index}
use Rattle.stream_spec.specs.History.{placed_after}

abbrev pub carried : History → Placed → List Placed
carried h b = window h b ++ b ∷ []

pub in_window : (h : History) (x y : Placed) → In y (window h x) → In y (placed h) × (y.source ≡ x.source) × (low x ≤ y.index) × (y.index < x.index)
in_window h x y i =
    let r = in_filter (λ (z : Placed). (z.source == x.source) && (nat_le (low x) z.index && nat_lt z.index x.index)) y (placed h) i in
    let a = and_parts (y.source == x.source) (nat_le (low x) y.index && nat_lt y.index x.index) r.1 in
    let b = and_parts (nat_le (low x) y.index) (nat_lt y.index x.index) a.1 in
    (r.0, eqb-true y.source x.source a.0, leb-true (low x) y.index b.0, ltb-true y.index x.index b.1)

pub window_in : (h : History) (x y : Placed) → In y (placed h) → y.source ≡ x.source → low x ≤ y.index → y.index < x.index → In y (window h x)
window_in h x y i s l u =
    filter_in (λ (z : Placed). (z.source == x.source) && (nat_le (low x) z.index && nat_lt z.index x.index)) y (placed h) i
    (and_from (y.source == x.source) (nat_le (low x) y.index && nat_lt y.index x.index) (eq-eqb y.source x.source s)
    (and_from (nat_le (low x) y.index) (nat_lt y.index x.index) (le-leb (low x) y.index l) (lt-ltb y.index x.index u)))

pub in_carried : (h : History) (b y : Placed) → In b (placed h) → In y (carried h b) → In y (placed h) × IsCarrier y b
in_carried h b y m i = elim (in_append y (window h b) (b ∷ []) i) [
  | inl j ↦ let r = in_window h b y j in (r.0, record { source = sym r.1; reaches = r.2; behind = omega (arith, r.3) })
  | inr (inl p) ↦ (subst (λ (z : Placed). In z (placed h)) (sym p) m, record { source = sym (ap (λ (z : Placed). z.source) p); reaches = omega (arith, ap (λ (z : Placed). z.index) p); behind = omega (arith, ap (λ (z : Placed). z.index) p) })
  | inr (inr j) ↦ absurd j
]

pub carried_in : (h : History) (b y : Placed) → In b (placed h) → In y (placed h) → IsCarrier y b → In y (carried h b)
carried_in h b y m i c = elim (cases_order y.index b.index) [
  | inl e ↦ in_right y (window h b) (b ∷ []) (inl (same_index h y b i m (sym c.source) e))
  | inr (inl lt) ↦ in_left y (window h b) (b ∷ []) (window_in h b y i (sym c.source) c.reaches lt)
  | inr (inr gt) ↦ absurd (omega (arith, c.behind))
]

pub in_blocks_of : (prev : Option Placed) (ys : List Placed) (k : Placed) → In (Block k) (blocks_of prev ys) → In k ys × (is_above prev k ≡ true) × (has_text k.text ≡ true)
in_blocks_of prev [] k i = absurd i
in_blocks_of prev (y ∷ ys) k i = elim (in_append (Block k) (if is_above prev y && has_text y.text then Block y ∷ [] else []) (blocks_of prev ys) i) [
  | inl j ↦ let r = in_when (is_above prev y && has_text y.text) (Block k) (Block y) j in
      let same : k ≡ y = cc r.1 in
      let t = and_parts (is_above prev y) (has_text y.text) r.0 in
      (inl same, ap (is_above prev) same ∙ t.0, ap (λ (z : Placed). has_text z.text) same ∙ t.1)
  | inr j ↦ let r = in_blocks_of prev ys k j in (inr r.0, r.1, r.2)
]

pub blocks_of_in : (prev : Option Placed) (ys : List Placed) (k : Placed) → In k ys → is_above prev k ≡ true → has_text k.text ≡ true → In (Block k) (blocks_of prev ys)
blocks_of_in prev [] k i a t = absurd i
blocks_of_in prev (y ∷ ys) k (inl p) a t =
    in_left (Block k) (if is_above prev y && has_text y.text then Block y ∷ [] else []) (blocks_of prev ys)
    (when_in (is_above prev y && has_text y.text) (Block k) (Block y) (and_from (is_above prev y) (has_text y.text) (sym (ap (is_above prev) p) ∙ a) (sym (ap (λ (z : Placed). has_text z.text) p) ∙ t)) (ap Block p))
blocks_of_in prev (y ∷ ys) k (inr i) a t = in_right (Block k) (if is_above prev y && has_text y.text then Block y ∷ [] else []) (blocks_of prev ys) (blocks_of_in prev ys k i a t)

-- a block that an entry gives
pub in_items_of : (h : History) (present : ℕ → Bool) (least : ℕ) (prev : Option Placed) (b k : Placed) → In b (placed h) → In (Block k) (items_of h present least prev b)
    → In k (placed h) × IsCarrier k b × (is_above prev k ≡ true) × (has_text k.text ≡ true)
in_items_of h present least prev b k m i = elim (in_append (Block k) (if has_marker present least prev b then Marker ∷ [] else []) (blocks_of prev (carried h b)) i) [
  | inl j ↦ let r = in_when (has_marker present least prev b) (Block k) Marker j in cc r.1
  | inr j ↦ let r = in_blocks_of prev (carried h b) k j in let c = in_carried h b k m r.0 in (c.0, c.1, r.1, r.2)
]

pub items_of_in : (h : History) (present : ℕ → Bool) (least : ℕ) (prev : Option Placed) (b k : Placed) → In b (placed h) → In k (placed h) → IsCarrier k b → is_above prev k ≡ true → has_text k.text ≡ true
    → In (Block k) (items_of h present least prev b)
items_of_in h present least prev b k m i c a t = in_right (Block k) (if has_marker present least prev b then Marker ∷ [] else []) (blocks_of prev (carried h b)) (blocks_of_in prev (carried h b) k (carried_in h b k m i c) a t)

-- what is known of prev, on a walk over bs
abbrev pub Follows : History → ℕ → Option Placed → List Placed → Type 0
Follows h s None bs = Unit {0}
Follows h s (Some a) bs = In a (placed h) × (a.source ≡ s) × ((y : Placed) → In y bs → a.place < y.place)

pub record Walk (h : History) (s : ℕ) (prev : Option Placed) (bs : List Placed) : Type 0 where
  pub within : (x : Placed) → In x bs → In x (placed h)
  pub own : (x : Placed) → In x bs → x.source ≡ s
  pub rising : Rising bs
  pub follows : Follows h s prev bs

pub next : (h : History) (s : ℕ) (prev : Option Placed) (b : Placed) (bs : List Placed) → Walk h s prev (b ∷ bs) → Walk h s (Some b) bs
next h s prev b bs w = record { within = λ x i. w.within x (inr i); own = λ x i. w.own x (inr i); rising = w.rising.1; follows = (w.within b (inl refl), w.own b (inl refl), w.rising.0) }

pub above_first : (h : History) (s : ℕ) (prev : Option Placed) (b : Placed) (bs : List Placed) → Walk h s prev (b ∷ bs) → is_above prev b ≡ true
above_first h s None b bs w = refl
above_first h s (Some a) b bs w = let f = w.follows in lt-ltb a.index b.index (index_rises h a b f.0 (w.within b (inl refl)) (f.1 ∙ sym (w.own b (inl refl))) (f.2 b (inl refl)))

pub above_trans : (prev : Option Placed) (b k : Placed) → is_above prev b ≡ true → b.index < k.index → is_above prev k ≡ true
above_trans None b k a l = refl
above_trans (Some p) b k a l = let u : p.index < b.index = ltb-true p.index b.index a in lt-ltb p.index k.index (omega arith)

-- a block of the walk has a carrier there, and lies above prev
pub kept_tells : (h : History) (present : ℕ → Bool) (least s : ℕ) (prev : Option Placed) (bs : List Placed) (k : Placed) → Walk h s prev bs
    → In (Block k) (kept_over h present least prev bs) → In k (placed h) × (is_above prev k ≡ true) × (has_text k.text ≡ true) × (c : Placed) × In c bs × IsCarrier k c
kept_tells h present least s prev [] k w i = absurd i
kept_tells h present least s prev (b ∷ bs) k w i = elim (in_append (Block k) (items_of h present least prev b) (kept_over h present least (Some b) bs) i) [
  | inl j ↦ let r = in_items_of h present least prev b k (w.within b (inl refl)) j in (r.0, r.2, r.3, b, inl refl, r.1)
  | inr j ↦ let r = kept_tells h present least s (Some b) bs k (next h s prev b bs w) j in
      (r.0, above_trans prev b k (above_first h s prev b bs w) (ltb-true b.index k.index r.1), r.2, r.3, inr r.4, r.5)
]

-- where a carrier came, the block stands
pub kept_has : (h : History) (law : Lawful h) (present : ℕ → Bool) (least s : ℕ) (prev : Option Placed) (bs : List Placed) (k c : Placed) → Walk h s prev bs
    → In k (placed h) → is_above prev k ≡ true → has_text k.text ≡ true → In c bs → IsCarrier k c → In (Block k) (kept_over h present least prev bs)
kept_has h law present least s prev [] k c w m a t i cs = absurd i
kept_has h law present least s prev (b ∷ bs) k c w m a t (inl p) cs =
    in_left (Block k) (items_of h present least prev b) (kept_over h present least (Some b) bs)
    (items_of_in h present least prev b k (w.within b (inl refl)) m (subst (IsCarrier k) p cs) a t)
kept_has h law present least s prev (b ∷ bs) k c w m a t (inr i) cs = elim (cases_lt b.index k.index) [
  | inl lt ↦ in_right (Block k) (items_of h present least prev b) (kept_over h present least (Some b) bs) (kept_has h law present least s (Some b) bs k c (next h s prev b bs w) m (lt-ltb b.index k.index lt) t i cs)
  | inr ge ↦
      let same : b.source ≡ c.source = w.own b (inl refl) ∙ sym (w.own c (inr i)) in
      let lows = law.low_rises b c (w.within b (inl refl)) (w.within c (inr i)) same (w.rising.0 c i) in
      in_left (Block k) (items_of h present least prev b) (kept_over h present least (Some b) bs)
      (items_of_in h present least prev b k (w.within b (inl refl)) m (record { source = same ∙ cs.source; reaches = omega (arith, lows, cs.reaches); behind = ge }) a t)
]

-- ---- rising
pub rising_filter : (p : Placed → Bool) (xs : List Placed) → Rising xs → Rising (filter p xs)
rising_filter p [] r = tt
rising_filter p (x ∷ xs) r = go (p x) (rising_filter p xs r.1)
  where
    go : (b : Bool) → Rising (filter p xs) → Rising (cond b (x ∷ filter p xs) (filter p xs))
    go true q = (λ y i. r.0 y (in_filter p y xs i).0, q)
    go false q = q

pub rising_append : (xs ys : List Placed) → Rising xs → Rising ys → ((x y : Placed) → In x xs → In y ys → x.place < y.place) → Rising (xs ++ ys)
rising_append [] ys r q f = q
rising_append (x ∷ xs) ys r q f = (λ y i. elim (in_append y xs ys i) [ inl j ↦ r.0 y j | inr j ↦ f x y (inl refl) j ], rising_append xs ys r.1 q (λ a b i j. f a b (inr i) j))

pub rising_placed_after : (before es : List Entry) → Rising (placed_after before es)
rising_placed_after before [] = tt
rising_placed_after before (e ∷ es) = (λ y i. place_from (e ∷ before) es y i, rising_placed_after (e ∷ before) es)

pub rising_carried : (h : History) (b : Placed) → In b (placed h) → Rising (carried h b)
rising_carried h b m = rising_append (window h b) (b ∷ []) (rising_filter (λ (z : Placed). (z.source == b.source) && (nat_le (low b) z.index && nat_lt z.index b.index)) (placed h) (rising_placed_after [] h.entries))
    ((λ y i. absurd i), tt) last
  where
    last : (x y : Placed) → In x (window h b) → In y (b ∷ []) → x.place < y.place
    last x y i (inl p) = let r = in_window h b x i in let l = place_rises h x b r.0 m r.1 r.3 in omega (arith, l, ap (λ (z : Placed). z.place) p)
    last x y i (inr j) = absurd j

pub blocks_in_append : (xs ys : List Item) → blocks_in (xs ++ ys) ≡ blocks_in xs ++ blocks_in ys
blocks_in_append [] ys = refl
blocks_in_append (Marker ∷ xs) ys = blocks_in_append xs ys
blocks_in_append (Block x ∷ xs) ys = ap (λ zs. x ∷ zs) (blocks_in_append xs ys)

pub in_blocks_in : (k : Placed) (items : List Item) → In k (blocks_in items) → In (Block k) items
in_blocks_in k [] i = absurd i
in_blocks_in k (Marker ∷ xs) i = inr (in_blocks_in k xs i)
in_blocks_in k (Block x ∷ xs) (inl p) = inl (ap Block p)
in_blocks_in k (Block x ∷ xs) (inr i) = inr (in_blocks_in k xs i)

blocks_in_blocks_of : (prev : Option Placed) (ys : List Placed) → blocks_in (blocks_of prev ys) ≡ filter (λ y. is_above prev y && has_text y.text) ys
blocks_in_blocks_of prev [] = refl
blocks_in_blocks_of prev (y ∷ ys) = go (is_above prev y && has_text y.text) (blocks_in_blocks_of prev ys)
  where
    go : (b : Bool) → blocks_in (blocks_of prev ys) ≡ filter (λ (z : Placed). is_above prev z && has_text z.text) ys
        → blocks_in (cond b (Block y ∷ []) [] ++ blocks_of prev ys) ≡ cond b (y ∷ filter (λ (z : Placed). is_above prev z && has_text z.text) ys) (filter (λ (z : Placed). is_above prev z && has_text z.text) ys)
    go true e = ap (λ zs. y ∷ zs) e
    go false e = e

no_blocks : (b : Bool) (xs : List Item) → blocks_in (cond b (Marker ∷ []) [] ++ xs) ≡ blocks_in xs
no_blocks true xs = refl
no_blocks false xs = refl

rising_items : (h : History) (present : ℕ → Bool) (least : ℕ) (prev : Option Placed) (b : Placed) → In b (placed h) → Rising (blocks_in (items_of h present least prev b))
rising_items h present least prev b m =
    rw (no_blocks (has_marker present least prev b) (blocks_of prev (carried h b)), blocks_in_blocks_of prev (carried h b))
    (rising_filter (λ (y : Placed). is_above prev y && has_text y.text) (carried h b) (rising_carried h b m))

pub kept_rises : (h : History) (present : ℕ → Bool) (least s : ℕ) (prev : Option Placed) (bs : List Placed) → Walk h s prev bs → Rising (blocks_in (kept_over h present least prev bs))
kept_rises h present least s prev [] w = tt
kept_rises h present least s prev (b ∷ bs) w =
    rw (blocks_in_append (items_of h present least prev b) (kept_over h present least (Some b) bs))
    (rising_append (blocks_in (items_of h present least prev b)) (blocks_in (kept_over h present least (Some b) bs))
    (rising_items h present least prev b (w.within b (inl refl))) (kept_rises h present least s (Some b) bs (next h s prev b bs w))
    (λ x y i j.
    let m = w.within b (inl refl) in
    let u = in_items_of h present least prev b x m (in_blocks_in x (items_of h present least prev b) i) in
    let v = kept_tells h present least s (Some b) bs y (next h s prev b bs w) (in_blocks_in y (kept_over h present least (Some b) bs) j) in
    let above : b.index < y.index = ltb-true b.index y.index v.1 in
    let behind = u.1.behind in
    place_rises h x y u.0 v.0 (sym u.1.source ∙ (w.own b (inl refl) ∙ (sym (w.own v.3 (inr v.4)) ∙ v.5.source))) (omega arith)))

pub walk_of : (h : History) (i : List Placed) (s : ℕ) → ArePlaces h i → Walk h s None (filter (is_entry_of s) i)
walk_of h i s a = record {
  within = λ x j. a.within x (in_filter (is_entry_of s) x i j).0;
  own = λ x j. eqb-true x.source s (in_filter (is_entry_of s) x i j).1;
  rising = rising_filter (is_entry_of s) i a.rising;
  follows = tt;
}

-- a block is there exactly where one of its carriers came
pub l2_rises : (h : History) (i : List Placed) (s : ℕ) → ArePlaces h i → Rising (blocks_in (kept h i s))
l2_rises h i s a = kept_rises h (has_place i) (least_place i) s None (filter (is_entry_of s) i) (walk_of h i s a)

pub l2_only : (h : History) (i : List Placed) (s : ℕ) (k : Placed) → ArePlaces h i → In (Block k) (kept h i s)
    → In k (placed h) × (k.source ≡ s) × (has_text k.text ≡ true) × (c : Placed) × In c i × IsCarrier k c
l2_only h i s k a j =
    let r = kept_tells h (has_place i) (least_place i) s None (filter (is_entry_of s) i) k (walk_of h i s a) j in
    let m = in_filter (is_entry_of s) r.3 i r.4 in
    (r.0, sym r.5.source ∙ eqb-true r.3.source s m.1, r.2, r.3, m.0, r.5)

pub l2_each : (h : History) → Lawful h → (i : List Placed) (s : ℕ) (k c : Placed) → ArePlaces h i → In k (placed h) → k.source ≡ s → has_text k.text ≡ true
    → In c i → IsCarrier k c → In (Block k) (kept h i s)
l2_each h law i s k c a m own t j cs =
    kept_has h law (has_place i) (least_place i) s None (filter (is_entry_of s) i) k c (walk_of h i s a) m refl t
    (filter_in (is_entry_of s) c i j (eq-eqb c.source s (cs.source ∙ own))) cs

pub l2 : (h : History) → Lawful h → (i : List Placed) → ArePlaces h i → (s : ℕ) (k : Placed) → In (Block k) (kept h i s) ↔ IsCarried h i s k
l2 h law i a s k = (λ j. let r = l2_only h i s k a j in record { entry = r.0; source = r.1; text = r.2; carrier = r.3; came = r.4; carries = r.5 }, λ c. l2_each h law i s k c.carrier a c.entry c.source c.text c.came c.carries)
