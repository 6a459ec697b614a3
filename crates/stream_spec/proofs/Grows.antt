-- A history that grows by one entry at its end.
use Rattle.std.proofs.Common.{◌^◌, ◌⊎◌, ◌≤◌, ◌≡◌, ℕ, zero, suc, ◌+◌, ◌-◌, ◌<◌, Bool, true, false, cond, inl, inr, List, [], ◌∷◌, ◌++◌, length, drop, refl, ap, subst, sym, ◌∙◌, arith}
use Rattle.std.specs.Prelude.{filter, ◌*◌, ◌&&◌, ◌==◌, nat_lt, nat_le, IsUtf8, if◌then◌else◌, max}
use Rattle.std.specs.List.{concat}
use Rattle.std.proofs.lemmas.Bool.{cases_Bool, cases_lt, eqb-true, eq-eqb, le-ltb, lt-ltb, le-leb, lt-leb, and_left, and_right}
use Rattle.wire_spec.specs.Packets.{has_text}
use Rattle.stream_spec.specs.Lists.{In}
use Rattle.stream_spec.specs.History.{Lawful, ReachFits, octets, texts_of, History, Entry, Placed, entry_count, placed_at, placed_after, placed, low, before, window}
use Rattle.stream_spec.specs.Kept.{is_entry_of}
use Rattle.stream_spec.proofs.Lists.{in_append, filter_in}
use Rattle.stream_spec.proofs.Places.{one_more_own}
use Rattle.rtt_base.specs.declared.limits.TheConstants.{MOST_PACKET_OCTETS, MOST_TEXT_OCTETS}
use Rattle.stream_spec.specs.Own.{own_packet}

abbrev pub grown : History → Entry → History
grown h e = record h { entries = h.entries ++ e ∷ [] }

abbrev pub last : History → Entry → Placed
last h e = record { place = length h.entries; index = entry_count e.source h.entries; source = e.source; media = e.media; text = e.text; generations = e.generations; reach = e.reach }

abbrev pub onto : List Entry → List Entry → List Entry
onto before [] = before
onto before (e ∷ es) = onto (e ∷ before) es

length_onto : (before es : List Entry) → length (onto before es) ≡ length before + length es
length_onto before [] = omega arith
length_onto before (e ∷ es) = let r = length_onto (e ∷ before) es in omega arith

sent_onto : (s : ℕ) (before es : List Entry) → entry_count s (onto before es) ≡ entry_count s before + entry_count s es
sent_onto s before [] = omega arith
sent_onto s before (e ∷ es) = let r = sent_onto s (e ∷ before) es in omega arith

snoc_after : (before es : List Entry) (e : Entry) → placed_after before (es ++ e ∷ []) ≡ placed_after before es ++ placed_at (onto before es) e ∷ []
snoc_after before [] e = refl
snoc_after before (f ∷ es) e = ap (λ xs. placed_at before f ∷ xs) (snoc_after (f ∷ before) es e)

pub placed_grown : (h : History) (e : Entry) → placed (grown h e) ≡ placed h ++ last h e ∷ []
placed_grown h e =
    let l : length (onto [] h.entries) ≡ length h.entries = (let r = length_onto [] h.entries in omega arith) in
    let n : entry_count e.source (onto [] h.entries) ≡ entry_count e.source h.entries = (let r = sent_onto e.source [] h.entries in omega arith) in
    snoc_after [] h.entries e ∙ rw (l, n) refl

pub index_under : (before es : List Entry) (x : Placed) → In x (placed_after before es) → x.index < entry_count x.source before + entry_count x.source es
index_under before [] x i = absurd i
index_under before (e ∷ es) x (inl p) =
    let s = ap (λ (z : Placed). z.source) p in
    let n = ap (λ (z : Placed). z.index) p in
    let same : entry_count e.source before ≡ entry_count x.source before = ap (λ k. entry_count k before) (sym s) in
    let own = one_more_own x.source e es (sym s) in omega arith
index_under before (e ∷ es) x (inr i) = let r = index_under (e ∷ before) es x i in omega arith

pub filter_snoc : {X : Type 0} (p : X → Bool) (xs : List X) (x : X) → p x ≡ false → filter p (xs ++ x ∷ []) ≡ filter p xs
filter_snoc p [] x h = rw h
filter_snoc p (y ∷ xs) x h = ap (λ ys. cond (p y) (y ∷ ys) ys) (filter_snoc p xs x h)

pub before_grown : (h : History) (e : Entry) (m : ℕ) (x : Placed) → In x (placed h) → before (grown h e) m x ≡ before h m x
before_grown h e m x i = rw (placed_grown h e) (filter_snoc (λ (y : Placed). (y.source == x.source) && (nat_le (x.index - m) y.index && nat_lt y.index x.index)) (placed h) (last h e) outside)
  where
    outside : ((e.source == x.source) && (nat_le (x.index - m) (last h e).index && nat_lt (last h e).index x.index)) ≡ false
    outside = elim (cases_Bool (e.source == x.source)) [
      | inl t ↦
          let u = index_under [] h.entries x i in
          let same : entry_count e.source h.entries ≡ entry_count x.source h.entries = ap (λ n. entry_count n h.entries) (eqb-true e.source x.source t) in
          and_right (e.source == x.source) (nat_le (x.index - m) (last h e).index && nat_lt (last h e).index x.index) (and_right (nat_le (x.index - m) (last h e).index) (nat_lt (last h e).index x.index) (le-ltb (entry_count e.source h.entries) x.index (omega arith)))
      | inr f ↦ and_left (e.source == x.source) (nat_le (x.index - m) (last h e).index && nat_lt (last h e).index x.index) f
    ]

pub window_grown : (h : History) (e : Entry) (x : Placed) → In x (placed h) → window (grown h e) x ≡ window h x
window_grown h e x i = before_grown h e x.generations x i

-- ---- the window of the last entry: the last `generations` entries of its source
abbrev pub own : History → ℕ → List Placed
own h s = filter (is_entry_of s) (placed h)

abbrev pub Consecutive : ℕ → List Placed → Type 0
Consecutive k [] = Unit {0}
Consecutive k (x ∷ xs) = (x.index ≡ k) × Consecutive (suc k) xs

own_consecutive : (s : ℕ) (before es : List Entry) → Consecutive (entry_count s before) (filter (is_entry_of s) (placed_after before es))
own_consecutive s before [] = tt
own_consecutive s before (e ∷ es) = go (e.source == s) refl (own_consecutive s (e ∷ before) es)
  where
    go : (b : Bool) → (e.source == s) ≡ b → Consecutive (entry_count s (e ∷ before)) (filter (is_entry_of s) (placed_after (e ∷ before) es))
        → Consecutive (entry_count s before) (cond b (placed_at before e ∷ filter (is_entry_of s) (placed_after (e ∷ before) es)) (filter (is_entry_of s) (placed_after (e ∷ before) es)))
    go true t c = (ap (λ n. entry_count n before) (eqb-true e.source s t), let k : entry_count s (e ∷ before) ≡ suc (entry_count s before) = rw t (omega arith) in subst (λ (n : ℕ). Consecutive n (filter (is_entry_of s) (placed_after (e ∷ before) es))) k c)
    go false f c = let k : entry_count s (e ∷ before) ≡ entry_count s before = rw f (omega arith) in subst (λ (n : ℕ). Consecutive n (filter (is_entry_of s) (placed_after (e ∷ before) es))) k c

from_index : (k lo : ℕ) (xs : List Placed) → Consecutive k xs → filter (λ (y : Placed). nat_le lo y.index) xs ≡ drop (lo - k) xs
from_index k lo [] c = empty (lo - k)
  where
    empty : (n : ℕ) → let none : List Placed = [] in none ≡ drop n none
    empty zero = refl
    empty (suc n) = refl
from_index k lo (x ∷ xs) c = elim (cases_lt k lo) [
  | inl lt ↦
      let d : lo - k ≡ suc (lo - suc k) = omega arith in
      rw (lt-leb lo x.index (omega (arith, c.0)), d) (from_index (suc k) lo xs c.1)
  | inr ge ↦
      let d : lo - k ≡ 0 = omega arith in
      let d' : lo - suc k ≡ 0 = omega arith in
      rw (le-leb lo x.index (omega (arith, c.0)), d) (ap (λ ys. x ∷ ys) (from_index (suc k) lo xs c.1 ∙ ap (λ n. drop n xs) d'))
]

filter_same : {X : Type 0} (p q : X → Bool) (xs : List X) → ((x : X) → In x xs → p x ≡ q x) → filter p xs ≡ filter q xs
filter_same p q [] f = refl
filter_same p q (x ∷ xs) f = rw (f x (inl refl), filter_same p q xs (λ y i. f y (inr i))) refl

filter_twice : {X : Type 0} (p q : X → Bool) (xs : List X) → filter q (filter p xs) ≡ filter (λ x. p x && q x) xs
filter_twice p q [] = refl
filter_twice p q (x ∷ xs) = go (p x) (q x) (filter_twice p q xs)
  where
    go : (a b : Bool) → filter q (filter p xs) ≡ filter (λ x. p x && q x) xs → filter q (cond a (x ∷ filter p xs) (filter p xs)) ≡ cond (a && q x) (x ∷ filter (λ x. p x && q x) xs) (filter (λ x. p x && q x) xs)
    go true b e = ap (λ ys. cond (q x) (x ∷ ys) ys) e
    go false b e = e

-- an entry whose index is lo or above stands behind the first lo of its source
pub late_in : (h : History) (x : Placed) (lo : ℕ) → In x (placed h) → lo ≤ x.index → In x (drop lo (own h x.source))
late_in h x lo i l =
    let zero_off : lo - 0 ≡ lo = omega arith in
    subst (λ (ys : List Placed). In x ys) (from_index 0 lo (own h x.source) (own_consecutive x.source [] h.entries) ∙ ap (λ k. drop k (own h x.source)) zero_off)
    (filter_in (λ (y : Placed). nat_le lo y.index) x (own h x.source) (filter_in (is_entry_of x.source) x (placed h) i (eq-eqb x.source x.source refl)) (le-leb lo x.index l))

-- the m entries before the last one
pub before_last : (h : History) (e : Entry) (m : ℕ) → before (grown h e) m (last h e) ≡ drop (entry_count e.source h.entries - m) (own h e.source)
before_last h e m =
    let s = e.source in
    let n = entry_count s h.entries in
    let lo = n - m in
    let zero_off : lo - 0 ≡ lo = omega arith in
    rw (placed_grown h e)
    (filter_snoc (λ (y : Placed). (y.source == s) && (nat_le lo y.index && nat_lt y.index n)) (placed h) (last h e)
    (and_right (s == s) (nat_le lo n && nat_lt n n) (and_right (nat_le lo n) (nat_lt n n) (le-ltb n n (omega arith))))
    ∙ (filter_same (λ (y : Placed). (y.source == s) && (nat_le lo y.index && nat_lt y.index n)) (λ (y : Placed). (y.source == s) && nat_le lo y.index) (placed h) within
    ∙ (sym (filter_twice (is_entry_of s) (λ (y : Placed). nat_le lo y.index) (placed h)) ∙ (from_index 0 lo (own h s) (own_consecutive s [] h.entries) ∙ ap (λ k. drop k (own h s)) zero_off))))
  where
    within : (y : Placed) → In y (placed h) → ((y.source == e.source) && (nat_le (entry_count e.source h.entries - m) y.index && nat_lt y.index (entry_count e.source h.entries))) ≡ ((y.source == e.source) && nat_le (entry_count e.source h.entries - m) y.index)
    within y i = go (y.source == e.source) refl
      where
        both : (b : Bool) → (b && true) ≡ b
        both true = refl
        both false = refl

        go : (b : Bool) → (y.source == e.source) ≡ b → (b && (nat_le (entry_count e.source h.entries - m) y.index && nat_lt y.index (entry_count e.source h.entries))) ≡ (b && nat_le (entry_count e.source h.entries - m) y.index)
        go false f = refl
        go true t =
            let u = index_under [] h.entries y i in
            let same : entry_count y.source h.entries ≡ entry_count e.source h.entries = ap (λ n. entry_count n h.entries) (eqb-true y.source e.source t) in
            rw (lt-ltb y.index (entry_count e.source h.entries) (omega arith)) (both (nat_le (entry_count e.source h.entries - m) y.index))

-- the entries that the last one repeats
pub window_last : (h : History) (e : Entry) → window (grown h e) (last h e) ≡ drop (entry_count e.source h.entries - e.generations) (own h e.source)
window_last h e = before_last h e e.generations

-- ---- a lawful history stays lawful
pub octets_grown : (h : History) (e : Entry) (x : Placed) → In x (placed h) → octets (grown h e) x ≡ octets h x
octets_grown h e x i = ap (λ xs. (if x.source == h.ssrc then 12 else 16) + (4 * x.generations + 1) + length (concat (texts_of xs) ++ x.text)) (window_grown h e x i)

pub reach_grown : (h : History) (e : Entry) (x : Placed) → In x (placed h) → ReachFits h x → ReachFits (grown h e) x
reach_grown h e x i fits l = elim (fits l) [ inl z ↦ inl z | inr y ↦ inr (y.0, subst (λ (xs : List Placed). In y.0 xs) (sym (window_grown h e x i)) y.1, y.2) ]

-- an entry of the grown history is an old one or the last
pub split : (h : History) (e : Entry) (x : Placed) → In x (placed (grown h e)) → In x (placed h) ⊎ (x ≡ last h e)
split h e x i = elim (in_append x (placed h) (last h e ∷ []) (subst (λ (xs : List Placed). In x xs) (placed_grown h e) i)) [ inl j ↦ inl j | inr (inl s) ↦ inr s | inr (inr j) ↦ absurd j ]

-- the entry e may follow h
pub record Follows (h : History) (e : Entry) : Type 0 where
  pub later : (x : Placed) → In x (placed h) → (x.media ≤ e.media) × (e.media < x.media + 2 ^ 31)
  pub own_later : (x : Placed) → In x (placed h) → x.source ≡ e.source → (x.media < e.media) × (low x ≤ low (last h e))
  pub near : (x : Placed) → In x (placed h) → x.source ≡ e.source → low (last h e) ≤ x.index → has_text x.text ≡ true → e.media ≤ x.media + 16383
  pub generations : e.generations ≤ 8
  pub reach : e.reach < 2 ^ 14
  pub reach_fits : ReachFits (grown h e) (last h e)
  pub text : IsUtf8 e.text
  pub repeated : (x : Placed) → In x (placed h) → x.source ≡ e.source → low (last h e) ≤ x.index → length x.text ≤ MOST_TEXT_OCTETS
  pub sized : octets (grown h e) (last h e) ≤ MOST_PACKET_OCTETS

pub lawful_grown : (h : History) (e : Entry) → Lawful h → Follows h e → Lawful (grown h e)
lawful_grown h e law f = record {
  orders = λ x y i j l. orders x y (split h e x i) (split h e y j) l;
  spans = λ x y i j. spans x y (split h e x i) (split h e y j);
  rises = λ x y i j s l. (both x y (split h e x i) (split h e y j) s l).0;
  low_rises = λ x y i j s l. (both x y (split h e x i) (split h e y j) s l).1;
  near = λ x y i j s l r t. near x y (split h e x i) (split h e y j) s l r t;
  generations = λ x i. elim (split h e x i) [ inl j ↦ law.generations x j | inr q ↦ subst (λ (z : Placed). z.generations ≤ 8) (sym q) f.generations ];
  reach = λ x i. elim (split h e x i) [ inl j ↦ law.reach x j | inr q ↦ subst (λ (z : Placed). z.reach < 2 ^ 14) (sym q) f.reach ];
  reach_fits = λ x i. elim (split h e x i) [ inl j ↦ reach_grown h e x j (law.reach_fits x j) | inr q ↦ subst (ReachFits (grown h e)) (sym q) f.reach_fits ];
  text = λ x i. elim (split h e x i) [ inl j ↦ law.text x j | inr q ↦ subst (λ (z : Placed). IsUtf8 z.text) (sym q) f.text ];
  repeated = λ x y i j s l r. again x y (split h e x i) (split h e y j) s l r;
  sized = λ x i. elim (split h e x i) [ inl j ↦ subst (λ (n : ℕ). n ≤ MOST_PACKET_OCTETS) (sym (octets_grown h e x j)) (law.sized x j) | inr q ↦ subst (λ (z : Placed). octets (grown h e) z ≤ MOST_PACKET_OCTETS) (sym q) f.sized ];
}
  where
    below : (es before : List Entry) (x : Placed) → In x (placed_after before es) → x.place < length before + length es
    below [] before x i = absurd i
    below (f ∷ es) before x (inl s) = omega (arith, ap (λ (z : Placed). z.place) s)
    below (f ∷ es) before x (inr j) = let r = below es (f ∷ before) x j in omega arith

    media : (x : Placed) → x ≡ last h e → x.media ≡ e.media
    media x s = ap (λ (z : Placed). z.media) s

    orders : (x y : Placed) → In x (placed h) ⊎ (x ≡ last h e) → In y (placed h) ⊎ (y ≡ last h e) → x.place ≤ y.place → x.media ≤ y.media
    orders x y (inl i) (inl j) l = law.orders x y i j l
    orders x y (inl i) (inr t) l = let n = f.later x i in omega (arith, media y t, n.0)
    orders x y (inr s) (inl j) l = let b = below h.entries [] y j in absurd (omega (arith, ap (λ (z : Placed). z.place) s))
    orders x y (inr s) (inr t) l = omega (arith, media x s, media y t)

    spans : (x y : Placed) → In x (placed h) ⊎ (x ≡ last h e) → In y (placed h) ⊎ (y ≡ last h e) → x.media < y.media + 2 ^ 31
    spans x y (inl i) (inl j) = law.spans x y i j
    spans x y (inl i) (inr t) = let n = f.later x i in omega (arith, media y t, n.0)
    spans x y (inr s) (inl j) = let n = f.later y j in omega (arith, media x s, n.1)
    spans x y (inr s) (inr t) = omega (arith, media x s, media y t)

    both : (x y : Placed) → In x (placed h) ⊎ (x ≡ last h e) → In y (placed h) ⊎ (y ≡ last h e) → x.source ≡ y.source → x.place < y.place → (x.media < y.media) × (low x ≤ low y)
    both x y (inl i) (inl j) s l = (law.rises x y i j s l, law.low_rises x y i j s l)
    both x y (inl i) (inr t) s l = let o = f.own_later x i (s ∙ ap (λ (z : Placed). z.source) t) in (omega (arith, media y t, o.0), subst (λ (z : Placed). low x ≤ low z) (sym t) o.1)
    both x y (inr t) (inl j) s l = let b = below h.entries [] y j in absurd (omega (arith, ap (λ (z : Placed). z.place) t))
    both x y (inr t) (inr u) s l = absurd (omega (arith, ap (λ (z : Placed). z.place) t, ap (λ (z : Placed). z.place) u))

    near : (x y : Placed) → In x (placed h) ⊎ (x ≡ last h e) → In y (placed h) ⊎ (y ≡ last h e) → x.source ≡ y.source → x.index < y.index → low y ≤ x.index → has_text x.text ≡ true → y.media ≤ x.media + 16383
    near x y (inl i) (inl j) s l r t = law.near x y i j s l r t
    near x y (inl i) (inr q) s l r t = omega (arith, media y q, f.near x i (s ∙ ap (λ (z : Placed). z.source) q) (subst (λ (z : Placed). low z ≤ x.index) q r) t)
    near x y (inr q) (inl j) s l r t =
        let u = index_under [] h.entries y j in
        let same : entry_count y.source h.entries ≡ entry_count e.source h.entries = ap (λ n. entry_count n h.entries) (sym s ∙ ap (λ (z : Placed). z.source) q) in
        let empty : entry_count y.source [] ≡ 0 = refl in
        absurd (omega (arith, ap (λ (z : Placed). z.index) q))
    near x y (inr q) (inr w) s l r t = absurd (omega (arith, ap (λ (z : Placed). z.index) q, ap (λ (z : Placed). z.index) w))

    again : (x y : Placed) → In x (placed h) ⊎ (x ≡ last h e) → In y (placed h) ⊎ (y ≡ last h e) → x.source ≡ y.source → x.index < y.index → low y ≤ x.index → length x.text ≤ MOST_TEXT_OCTETS
    again x y (inl i) (inl j) s l r = law.repeated x y i j s l r
    again x y (inl i) (inr q) s l r = f.repeated x i (s ∙ ap (λ (z : Placed). z.source) q) (subst (λ (z : Placed). low z ≤ x.index) q r)
    again x y (inr q) (inl j) s l r =
        let u = index_under [] h.entries y j in
        let same : entry_count y.source h.entries ≡ entry_count e.source h.entries = ap (λ n. entry_count n h.entries) (sym s ∙ ap (λ (z : Placed). z.source) q) in
        let empty : entry_count y.source [] ≡ 0 = refl in
        absurd (omega (arith, ap (λ (z : Placed). z.index) q))
    again x y (inr q) (inr w) s l r = absurd (omega (arith, ap (λ (z : Placed). z.index) q, ap (λ (z : Placed). z.index) w))

-- the packet of an entry stays when the history grows
pub packet_stays : (h : History) (e : Entry) (x : Placed) → In x (placed h) → own_packet (grown h e) x ≡ own_packet h x
packet_stays h e x i = rw (before_grown h e (max 1 x.generations) x i, window_grown h e x i) refl
