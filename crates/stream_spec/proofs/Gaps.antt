-- Marks: where they stand, and where none does.
use Rattle.std.proofs.Common.{◌≡◌, ℕ, zero, suc, ◌+◌, ◌-◌, ◌<◌, ◌≤◌, Bool, true, false, ◌⊎◌, inl, inr, Option, Some, None, List, [], ◌∷◌, ◌++◌, refl, ap, subst, sym, ◌∙◌, arith, append_assoc}
use Rattle.std.specs.Prelude.{filter, ◌&&◌, ◌==◌, nat_lt, if◌then◌else◌}
use Rattle.std.proofs.lemmas.Bool.{cases_Bool, cases_lt, true≢false, cases_order, eq-eqb, eqb-true, ltb-true, lt-ltb, and_parts, and_from, or_cases, false_from_ne_true}
use Rattle.wire_spec.specs.Packets.{has_text}
use Rattle.stream_spec.specs.Hearing.{missing, missing_between}
use Rattle.stream_spec.specs.Lists.{In}
use Rattle.stream_spec.specs.History.{Entry, Placed, History, placed, placed_after, entry_count, placed_at, low, Lawful, ReachFits}
use Rattle.stream_spec.specs.Kept.{Item, Marker, Block, blocks_of, items_of, has_marker, lost_before, is_linked_after, kept_over, kept, is_above, is_entry_of, Rising, ArePlaces, IsCarrier, blocks_in, has_place, least_place, NoGap, is_text_of, Parts}
use Rattle.stream_spec.proofs.Lists.{in_append, in_filter, filter_in, in_when}
use Rattle.stream_spec.proofs.Places.{index_rises, place_rises, same_index, same_place_after}
use Rattle.stream_spec.proofs.Blocks.{Walk, next, walk_of, above_first, kept_tells, in_items_of, in_window, in_blocks_of, in_carried, carried, l2_rises, l2_only, l2_each, rising_filter, rising_placed_after, in_blocks_in}

-- ---- counts of what is missing
pub none_missing : (present : ℕ → Bool) (lo n : ℕ) → ((k : ℕ) → lo ≤ k → k < lo + n → present k ≡ true) → missing present lo n ≡ 0
none_missing present lo zero f = refl
none_missing present lo (suc n) f =
    let r = none_missing present lo n (λ k a b. f k a (omega arith)) in
    rw (f (lo + n) (omega arith) (omega arith)) (omega (arith, r))

pub missing_up : (present : ℕ → Bool) (lo m n : ℕ) → m ≤ n → missing present lo m ≤ missing present lo n
missing_up present lo m zero h = let e : m ≡ 0 = omega arith in rw e (omega arith)
missing_up present lo m (suc n) h = elim (cases_lt n m) [
  | inl lt ↦ let e : m ≡ suc n = omega arith in rw e (omega arith)
  | inr ge ↦ let r = missing_up present lo m n ge in omega (arith, r)
]

pub missing_here : (present : ℕ → Bool) (lo n : ℕ) → present (lo + n) ≡ false → missing present lo (suc n) ≡ 1 + missing present lo n
missing_here present lo n h = rw h

-- ---- entries of each index
index_below_after : (before es : List Entry) (y : Placed) (j : ℕ) → In y (placed_after before es) → entry_count y.source before ≤ j → j < y.index
    → (z : Placed) × In z (placed_after before es) × (z.source ≡ y.source) × (z.index ≡ j)
index_below_after before [] y j i l u = absurd i
index_below_after before (e ∷ es) y j (inl p) l u =
    let same : entry_count y.source before ≡ entry_count e.source before = ap (λ (z : Placed). entry_count z.source before) p in
    absurd (omega (arith, same, ap (λ (z : Placed). z.index) p))
index_below_after before (e ∷ es) y j (inr i) l u = go (cases_Bool (e.source == y.source)) (cases_lt (entry_count y.source before) j) (index_below_after (e ∷ before) es y j i)
  where
    go : ((e.source == y.source) ≡ true) ⊎ ((e.source == y.source) ≡ false) → (entry_count y.source before < j) ⊎ (j ≤ entry_count y.source before)
        → (entry_count y.source (e ∷ before) ≤ j → j < y.index → (z : Placed) × In z (placed_after (e ∷ before) es) × (z.source ≡ y.source) × (z.index ≡ j))
        → (z : Placed) × In z (placed_after before (e ∷ es)) × (z.source ≡ y.source) × (z.index ≡ j)
    go (inl t) (inl lt) f = let c : entry_count y.source (e ∷ before) ≤ j = rw t (omega arith) in let r = f c u in (r.0, inr r.1, r.2, r.3)
    go (inl t) (inr ge) f = let s = eqb-true e.source y.source t in let e2 : entry_count e.source before ≡ entry_count y.source before = ap (λ n. entry_count n before) s in (placed_at before e, inl refl, s, omega (arith, e2))
    go (inr t) q f = let c : entry_count y.source (e ∷ before) ≤ j = rw t (omega arith) in let r = f c u in (r.0, inr r.1, r.2, r.3)

pub nothing_sent : (s : ℕ) → entry_count s [] ≡ 0
nothing_sent s = refl

pub index_below : (h : History) (y : Placed) (j : ℕ) → In y (placed h) → j < y.index → (z : Placed) × In z (placed h) × (z.source ≡ y.source) × (z.index ≡ j)
index_below h y j i u = index_below_after [] h.entries y j i (omega (arith, nothing_sent y.source)) u

-- from k up to y at least d places are missing, where no entry of the source from k on below y is present
pub gap_count : (h : History) (present : ℕ → Bool) (lo d : ℕ) (k y : Placed) → In k (placed h) → In y (placed h) → y.source ≡ k.source → y.index ≡ k.index + d → lo ≤ k.place
    → ((z : Placed) → In z (placed h) → z.source ≡ k.source → k.index ≤ z.index → z.index < y.index → present z.place ≡ false)
    → d ≤ missing present lo (y.place - lo)
gap_count h present lo zero k y i j s e l f = omega arith
gap_count h present lo (suc d) k y i j s e l f =
    let b = index_below h y (k.index + d) j (omega arith) in
    let z = b.0 in
    let src : z.source ≡ k.source = b.2 ∙ s in
    let zi : z.index ≡ k.index + d = b.3 in
    let r = gap_count h present lo d k z i b.1 src b.3 l (λ x m t p q. f x m t p (omega (arith, zi))) in
    let lt = place_rises h z y b.1 j b.2 (omega (arith, zi)) in
    let ge : k.place ≤ z.place = below k z i b.1 src zi in
    let at : lo + (z.place - lo) ≡ z.place = omega arith in
    let here = missing_here present lo (z.place - lo) (ap present at ∙ f z b.1 src (omega (arith, zi)) (omega (arith, zi))) in
    let up = missing_up present lo (suc (z.place - lo)) (y.place - lo) (omega arith) in
    omega (arith, r, here, up)
  where
    below : (k z : Placed) → In k (placed h) → In z (placed h) → z.source ≡ k.source → z.index ≡ k.index + d → k.place ≤ z.place
    below k z i m src zi = elim (cases_order k.index z.index) [
      | inl q ↦ omega (arith, ap (λ (x : Placed). x.place) (same_index h k z i m (sym src) q))
      | inr (inl lt) ↦ let u = place_rises h k z i m (sym src) lt in omega (arith, u)
      | inr (inr gt) ↦ absurd (omega arith)
    ]

-- ---- without a gap there is no marker
pub has_place_at : (i : List Placed) (k : ℕ) → has_place i k ≡ true → (x : Placed) × In x i × (x.place ≡ k)
has_place_at [] k h = absurd (true≢false (sym h))
has_place_at (y ∷ i) k h = elim (or_cases (y.place == k) (has_place i k) h) [
  | inl t ↦ (y, inl refl, eqb-true y.place k t)
  | inr t ↦ let r = has_place_at i k t in (r.0, inr r.1, r.2)
]

pub marker_tells : (h : History) (present : ℕ → Bool) (least : ℕ) (prev : Option Placed) (bs : List Placed) → In Marker (kept_over h present least prev bs)
    → (a : Option Placed) × (b : Placed) × In b bs × ((a ≡ prev) ⊎ ((x : Placed) × In x bs × (a ≡ Some x))) × (has_marker present least a b ≡ true)
marker_tells h present least prev [] i = absurd i
marker_tells h present least prev (b ∷ bs) i = elim (in_append Marker (items_of h present least prev b) (kept_over h present least (Some b) bs) i) [
  | inl j ↦ elim (in_append Marker (if has_marker present least prev b then Marker ∷ [] else []) (blocks_of prev (carried h b)) j) [
    | inl m ↦ (prev, b, inl refl, inl refl, (in_when (has_marker present least prev b) Marker Marker m).0)
    | inr m ↦ absurd (no_marker prev (carried h b) m)
  ]
  | inr j ↦ let r = marker_tells h present least (Some b) bs j in (r.0, r.1, inr r.2, inr (from r.0 r.3), r.4)
]
  where
    no_marker : (prev : Option Placed) (ys : List Placed) → In Marker (blocks_of prev ys) → ⊥
    no_marker prev [] m = m
    no_marker prev (y ∷ ys) m = elim (in_append Marker (if is_above prev y && has_text y.text then Block y ∷ [] else []) (blocks_of prev ys) m) [
      | inl q ↦ let r = in_when (is_above prev y && has_text y.text) Marker (Block y) q in cc r.1
      | inr q ↦ no_marker prev ys q
    ]

    from : (a : Option Placed) → (a ≡ Some b) ⊎ ((x : Placed) × In x bs × (a ≡ Some x)) → (x : Placed) × In x (b ∷ bs) × (a ≡ Some x)
    from a (inl e) = (b, inl refl, e)
    from a (inr q) = (q.0, inr q.1, q.2)

pub least_in : (i : List Placed) (b : Placed) → In b i → (x : Placed) × In x i × (x.place ≡ least_place i)
least_in [] b m = absurd m
least_in (x ∷ i) b m = (x, inl refl, refl)

between_none : (i : List Placed) (x b : Placed) → NoGap i → In x i → In b i → missing_between (has_place i) x.place b.place ≡ 0
between_none i x b g m n = none_missing (has_place i) (x.place + 1) (b.place - (x.place + 1)) (λ k p q. g x b k m n (omega arith) (omega arith))

no_marker_at : (i : List Placed) (a : Option Placed) (b : Placed) → NoGap i → In b i → ((a ≡ None) ⊎ ((x : Placed) × In x i × (a ≡ Some x))) → has_marker (has_place i) (least_place i) a b ≡ true → ⊥
no_marker_at i None b g m q t =
    let x = least_in i b m in
    let z = between_none i x.0 b g x.1 m in
    let z' : missing_between (has_place i) (least_place i) b.place ≡ 0 = subst (λ (n : ℕ). missing_between (has_place i) n b.place ≡ 0) x.2 z in
    let l = ltb-true b.generations (missing_between (has_place i) (least_place i) b.place) (and_parts (nat_lt b.generations (lost_before (has_place i) (least_place i) None b)) true t).0 in
    omega arith
no_marker_at i (Some a) b g m (inl e) t = cc e
no_marker_at i (Some a) b g m (inr q) t =
    let same : a ≡ q.0 = cc q.2 in
    let z = between_none i a b g (subst (λ (x : Placed). In x i) (sym same) q.1) m in
    let l = ltb-true b.generations (missing_between (has_place i) a.place b.place) (and_parts (nat_lt b.generations (lost_before (has_place i) (least_place i) (Some a) b)) (is_linked_after (Some a) b) t).0 in
    omega arith

pub l4_no_marker : (h : History) (i : List Placed) (s : ℕ) → NoGap i → In Marker (kept h i s) → ⊥
l4_no_marker h i s g m =
    let r = marker_tells h (has_place i) (least_place i) None (filter (is_entry_of s) i) m in
    no_marker_at i r.0 r.1 g (in_filter (is_entry_of s) r.1 i r.2).0 (from r.0 r.3) r.4
  where
    from : (a : Option Placed) → (a ≡ None) ⊎ ((x : Placed) × In x (filter (is_entry_of s) i) × (a ≡ Some x)) → (a ≡ None) ⊎ ((x : Placed) × In x i × (a ≡ Some x))
    from a (inl e) = inl e
    from a (inr q) = inr (q.0, (in_filter (is_entry_of s) q.0 i q.1).0, q.2)

-- two rising lists with the same members are one
pub rising_same : (xs ys : List Placed) → Rising xs → Rising ys → ((x : Placed) → In x xs → In x ys) → ((x : Placed) → In x ys → In x xs) → xs ≡ ys
rising_same [] [] r q f g = refl
rising_same [] (y ∷ ys) r q f g = absurd (g y (inl refl))
rising_same (x ∷ xs) [] r q f g = absurd (f x (inl refl))
rising_same (x ∷ xs) (y ∷ ys) r q f g =
    let e = heads (f x (inl refl)) (g y (inl refl)) in
    let tails = rising_same xs ys r.1 q.1 (λ z i. keep x z y ys (r.0 z i) e (f z (inr i))) (λ z i. keep y z x xs (q.0 z i) (sym e) (g z (inr i))) in
    ap (λ z. z ∷ xs) e ∙ ap (λ zs. y ∷ zs) tails
  where
    heads : In x (y ∷ ys) → In y (x ∷ xs) → x ≡ y
    heads (inl p) _ = p
    heads (inr i) (inl p) = sym p
    heads (inr i) (inr j) = let u = q.0 x i in let v = r.0 y j in absurd (omega arith)

    keep : (x z y : Placed) (ys : List Placed) → x.place < z.place → x ≡ y → In z (y ∷ ys) → In z ys
    keep x z y ys l e (inl p) = absurd (omega (arith, ap (λ (w : Placed). w.place) (p ∙ sym e)))
    keep x z y ys l e (inr i) = i

pub in_blocks : (k : Placed) (items : List Item) → In (Block k) items → In k (blocks_in items)
in_blocks k [] i = absurd i
in_blocks k (Marker ∷ xs) (inl p) = cc p
in_blocks k (Marker ∷ xs) (inr i) = in_blocks k xs i
in_blocks k (Block x ∷ xs) (inl p) = inl (cc p)
in_blocks k (Block x ∷ xs) (inr i) = inr (in_blocks k xs i)

pub l4_all : (h : History) (s : ℕ) → Lawful h → blocks_in (kept h (placed h) s) ≡ filter (is_text_of s) (placed h)
l4_all h s law =
    let all : ArePlaces h (placed h) = record { within = λ x i. i; rising = rising_placed_after [] h.entries } in
    rising_same (blocks_in (kept h (placed h) s)) (filter (is_text_of s) (placed h)) (l2_rises h (placed h) s all) (rising_filter (is_text_of s) (placed h) (rising_placed_after [] h.entries))
    (λ x i. let r = l2_only h (placed h) s x all (in_blocks_in x (kept h (placed h) s) i) in
    filter_in (is_text_of s) x (placed h) r.0 (and_from (is_entry_of s x) (has_text x.text) (eq-eqb x.source s r.1) r.2))
    (λ x i. let r = in_filter (is_text_of s) x (placed h) i in
    let a = and_parts (is_entry_of s x) (has_text x.text) r.1 in
    in_blocks x (kept h (placed h) s) (l2_each h law (placed h) s x x all r.0 (eqb-true x.source s a.0) a.1 r.0 (record { source = refl; reaches = omega arith; behind = omega arith })))

-- ---- a marker stands where a block is absent
-- what the walk over the entries of s in i knows of i
pub record Rest (i : List Placed) (s : ℕ) (prev : Option Placed) (bs : List Placed) : Type 0 where
  pub all : (x : Placed) → In x i → x.source ≡ s → is_above prev x ≡ true → In x bs
  pub each : (x : Placed) → In x bs → In x i

-- the least number that counts, after prev
abbrev pub start : ℕ → Option Placed → ℕ
start least None = least + 1
start least (Some a) = a.place + 1

lost_is : (present : ℕ → Bool) (least : ℕ) (prev : Option Placed) (b : Placed) → lost_before present least prev b ≡ missing present (start least prev) (b.place - start least prev)
lost_is present least None b = refl
lost_is present least (Some a) b = refl

linked : (h : History) (law : Lawful h) (s : ℕ) (prev : Option Placed) (b k : Placed) (bs : List Placed) → Walk h s prev (b ∷ bs) → ReachFits h b → is_above prev k ≡ true → k.index < low b → is_linked_after prev b ≡ true
linked h law s None b k bs w fit a l = refl
linked h law s (Some p) b k bs w fit a l =
    let f = w.follows in
    let m = w.within b (inl refl) in
    let own = w.own b (inl refl) in
    let pk = ltb-true p.index k.index a in
    elim (fit (omega arith)) [
      | inl z ↦ let u = law.rises p b f.0 m (f.1 ∙ sym own) (f.2 b (inl refl)) in lt-ltb (p.media + b.reach) b.media (omega (arith, z.1))
      | inr y ↦
          let r = in_window h b y.0 y.1 in
          let pl = place_rises h p y.0 f.0 r.0 (f.1 ∙ sym (r.1 ∙ own)) (omega (arith, r.2)) in
          let u = law.rises p y.0 f.0 r.0 (f.1 ∙ sym (r.1 ∙ own)) pl in
          lt-ltb (p.media + b.reach) b.media (omega (arith, y.2))
    ]

start_le : (h : History) (least s : ℕ) (prev : Option Placed) (k : Placed) (bs : List Placed) → Walk h s prev bs → In k (placed h) → k.source ≡ s → is_above prev k ≡ true → least < k.place → start least prev ≤ k.place
start_le h least s None k bs w m own a l = omega arith
start_le h least s (Some p) k bs w m own a l = let f = w.follows in let u = place_rises h p k f.0 m (f.1 ∙ sym own) (ltb-true p.index k.index a) in omega (arith, u)

-- b is the first of the walk, and its window lies above k
marked : (h : History) (law : Lawful h) (i : List Placed) (least s : ℕ) (prev : Option Placed) (b k : Placed) (bs : List Placed) → ArePlaces h i → Walk h s prev (b ∷ bs) → Rest i s prev (b ∷ bs) → ReachFits h b
    → In k (placed h) → k.source ≡ s → is_above prev k ≡ true → least < k.place → k.index < low b → has_marker (has_place i) least prev b ≡ true
marked h law i least s prev b k bs set w rest fit m own a l lo =
    let bm = w.within b (inl refl) in
    let bown = w.own b (inl refl) in
    let count = gap_count h (has_place i) (start least prev) (b.index - k.index) k b m bm (bown ∙ sym own) (omega arith) (start_le h least s prev k (b ∷ bs) w m own a l) absent in
    and_from (nat_lt b.generations (lost_before (has_place i) least prev b)) (is_linked_after prev b)
    (lt-ltb b.generations (lost_before (has_place i) least prev b) (rw (lost_is (has_place i) least prev b) (omega (arith, count, lo))))
    (linked h law s prev b k bs w fit a lo)
  where
    above : (prev : Option Placed) (z : Placed) → is_above prev k ≡ true → k.index ≤ z.index → is_above prev z ≡ true
    above None z a q = refl
    above (Some p) z a q = let u = ltb-true p.index k.index a in lt-ltb p.index z.index (omega arith)

    clash : (z : Placed) → z.index < b.index → In z (placed h) → z.source ≡ k.source → In z (b ∷ bs) → ⊥
    clash z u zm src (inl p) = omega (arith, ap (λ (x : Placed). x.index) p)
    clash z u zm src (inr j) = let v = index_rises h b z (w.within b (inl refl)) zm (w.own b (inl refl) ∙ sym (src ∙ own)) (w.rising.0 z j) in omega (arith, v)

    absent : (z : Placed) → In z (placed h) → z.source ≡ k.source → k.index ≤ z.index → z.index < b.index → has_place i z.place ≡ false
    absent z zm src q u = false_from_ne_true (has_place i z.place) (λ t.
        let r = has_place_at i z.place t in
        let same = same_place_after [] h.entries r.0 z (set.within r.0 r.1) zm r.2 in
        clash z u zm src (rest.all z (subst (λ (x : Placed). In x i) same r.1) (src ∙ own) (above prev z a q)))

pub gap_marked : (h : History) (law : Lawful h) (i : List Placed) (least s : ℕ) (prev : Option Placed) (bs : List Placed) (k c : Placed) → ArePlaces h i → Walk h s prev bs → Rest i s prev bs
    → ((b : Placed) → In b i → ReachFits h b) → In k (placed h) → k.source ≡ s → is_above prev k ≡ true → least < k.place
    → ((b : Placed) → In b bs → IsCarrier k b → ⊥) → In c bs → k.index < c.index → Parts k (kept_over h (has_place i) least prev bs)
gap_marked h law i least s prev [] k c set w rest fits m own a l none j u = absurd j
gap_marked h law i least s prev (b ∷ bs) k c set w rest fits m own a l none j u = elim (cases_order b.index k.index) [
  | inl e ↦ absurd (none b (inl refl) (record { source = w.own b (inl refl) ∙ sym own; reaches = omega arith; behind = omega arith }))
  | inr (inl lt) ↦
      let bm = w.within b (inl refl) in
      let r = gap_marked h law i least s (Some b) bs k c set (next h s prev b bs w) (record { all = λ x xi so ab. later x (rest.all x xi so (up x ab)) ab; each = λ x xi. rest.each x (inr xi) }) fits m own (lt-ltb b.index k.index lt) l (λ x xi. none x (inr xi)) (there j lt) u in (
        items_of h (has_place i) least prev b ++ r.0,
        r.1,
        ap (λ zs. items_of h (has_place i) least prev b ++ zs) r.2 ∙ sym (append_assoc (items_of h (has_place i) least prev b) r.0 (Marker ∷ r.1)),
        (λ x xi. elim (in_append (Block x) (items_of h (has_place i) least prev b) r.0 xi) [
          | inl q ↦ let v = in_items_of h (has_place i) least prev b x bm q in let bh = v.1.behind in omega arith
          | inr q ↦ r.3 x q
        ]),
        r.4,
      )
  | inr (inr gt) ↦
      let bm = w.within b (inl refl) in
      let lo : k.index < low b = elim (cases_lt k.index (low b)) [ inl y ↦ y | inr n ↦ absurd (none b (inl refl) (record { source = w.own b (inl refl) ∙ sym own; reaches = n; behind = omega arith })) ] in
      let mk = marked h law i least s prev b k bs set w rest (fits b (rest.each b (inl refl))) m own a l lo in (
        [],
        blocks_of prev (carried h b) ++ kept_over h (has_place i) least (Some b) bs,
        rw mk refl,
        (λ x xi. absurd xi),
        (λ x xi. elim (in_append (Block x) (blocks_of prev (carried h b)) (kept_over h (has_place i) least (Some b) bs) xi) [
          | inl q ↦ let v = in_carried h b x bm (in_blocks_of prev (carried h b) x q).0 in let re = v.1.reaches in omega arith
          | inr q ↦ let v = kept_tells h (has_place i) least s (Some b) bs x (next h s prev b bs w) q in let y = ltb-true b.index x.index v.1 in omega arith
        ]),
      )
]
  where
    there : In c (b ∷ bs) → b.index < k.index → In c bs
    there (inl p) lt = absurd (omega (arith, ap (λ (x : Placed). x.index) p))
    there (inr q) lt = q

    later : (x : Placed) → In x (b ∷ bs) → is_above (Some b) x ≡ true → In x bs
    later x (inl p) ab = let v = ltb-true b.index x.index ab in absurd (omega (arith, ap (λ (y : Placed). y.index) p))
    later x (inr q) ab = q

    up : (x : Placed) → is_above (Some b) x ≡ true → is_above prev x ≡ true
    up x ab = above_up prev (above_first h s prev b bs w)
      where
        above_up : (prev : Option Placed) → is_above prev b ≡ true → is_above prev x ≡ true
        above_up None t = refl
        above_up (Some p) t = let v = ltb-true b.index x.index ab in let y = ltb-true p.index b.index t in lt-ltb p.index x.index (omega arith)

pub least_le : (i : List Placed) (x : Placed) → Rising i → In x i → least_place i ≤ x.place
least_le [] x r m = absurd m
least_le (y ∷ i) x r (inl p) = omega (arith, ap (λ (z : Placed). z.place) p)
least_le (y ∷ i) x r (inr j) = let v = r.0 x j in omega arith

pub l3 : (h : History) → Lawful h → (i : List Placed) (s : ℕ) (k below c : Placed) → ArePlaces h i
    → In k (placed h) → k.source ≡ s → has_text k.text ≡ true → (In (Block k) (kept h i s) → ⊥)
    → In below i → below.place < k.place → In c i → c.source ≡ s → k.place < c.place
    → Parts k (kept h i s)
l3 h law i s k below c set m own t gone bi bl ci cs cl =
    let ll = least_le i below set.rising bi in
    gap_marked h law i (least_place i) s None (filter (is_entry_of s) i) k c set (walk_of h i s set)
    (record { all = λ x xi so ab. filter_in (is_entry_of s) x i xi (eq-eqb x.source s so); each = λ x xi. (in_filter (is_entry_of s) x i xi).0 })
    (λ b bi. law.reach_fits b (set.within b bi)) m own refl (omega arith)
    (λ b bi' cb. gone (l2_each h law i s k b set m own t (in_filter (is_entry_of s) b i bi').0 cb))
    (filter_in (is_entry_of s) c i ci (eq-eqb c.source s cs))
    (index_rises h k c m (set.within c ci) (own ∙ sym cs) cl)
