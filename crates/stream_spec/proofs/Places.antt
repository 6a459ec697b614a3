-- Places and indexes of a history.
use Rattle.std.proofs.Common.{◌≡◌, ℕ, ◌<◌, ◌≤◌, inl, inr, List, [], ◌∷◌, length, ap, sym, ◌∙◌, arith}
use Rattle.std.specs.Prelude.{◌==◌}
use Rattle.std.proofs.lemmas.Bool.{cases_Bool, cases_order, eq-eqb}
use Rattle.stream_spec.specs.Lists.{In}
use Rattle.stream_spec.specs.History.{entry_count, Entry, Placed, History, placed_after, placed}

pub place_from : (before es : List Entry) (x : Placed) → In x (placed_after before es) → length before ≤ x.place
place_from before [] x i = absurd i
place_from before (e ∷ es) x (inl p) = omega (arith, ap (λ (z : Placed). z.place) p)
place_from before (e ∷ es) x (inr i) = omega (arith, place_from (e ∷ before) es x i)

pub one_more : (s : ℕ) (e : Entry) (before : List Entry) → entry_count s before ≤ entry_count s (e ∷ before)
one_more s e before = elim (cases_Bool (e.source == s)) [ inl t ↦ rw t (omega arith) | inr f ↦ rw f (omega arith) ]

pub one_more_own : (s : ℕ) (e : Entry) (before : List Entry) → e.source ≡ s → entry_count s before < entry_count s (e ∷ before)
one_more_own s e before h = rw (eq-eqb e.source s h) (omega arith)

pub index_from : (before es : List Entry) (x : Placed) → In x (placed_after before es) → entry_count x.source before ≤ x.index
index_from before [] x i = absurd i
index_from before (e ∷ es) x (inl p) = let same : entry_count x.source before ≡ entry_count e.source before = ap (λ (z : Placed). entry_count z.source before) p in omega (arith, same, ap (λ (z : Placed). z.index) p)
index_from before (e ∷ es) x (inr i) = omega (arith, index_from (e ∷ before) es x i, one_more x.source e before)

pub index_rises_after : (before es : List Entry) (x y : Placed) → In x (placed_after before es) → In y (placed_after before es)
    → x.source ≡ y.source → x.place < y.place → x.index < y.index
index_rises_after before [] x y i j s l = absurd i
index_rises_after before (e ∷ es) x y (inl p) (inl q) s l = omega (arith, ap (λ (z : Placed). z.place) p, ap (λ (z : Placed). z.place) q)
index_rises_after before (e ∷ es) x y (inl p) (inr j) s l =
    let from = index_from (e ∷ before) es y j in
    let own = one_more_own y.source e before (sym (ap (λ (z : Placed). z.source) p) ∙ s) in
    let same : entry_count y.source before ≡ entry_count e.source before = ap (λ n. entry_count n before) (sym s ∙ ap (λ (z : Placed). z.source) p) in
    omega (arith, from, own, same, ap (λ (z : Placed). z.index) p)
index_rises_after before (e ∷ es) x y (inr i) (inl q) s l = omega (arith, place_from (e ∷ before) es x i, ap (λ (z : Placed). z.place) q)
index_rises_after before (e ∷ es) x y (inr i) (inr j) s l = index_rises_after (e ∷ before) es x y i j s l

pub same_place_after : (before es : List Entry) (x y : Placed) → In x (placed_after before es) → In y (placed_after before es) → x.place ≡ y.place → x ≡ y
same_place_after before [] x y i j l = absurd i
same_place_after before (e ∷ es) x y (inl p) (inl q) l = p ∙ sym q
same_place_after before (e ∷ es) x y (inl p) (inr j) l = absurd (omega (arith, place_from (e ∷ before) es y j, ap (λ (z : Placed). z.place) p))
same_place_after before (e ∷ es) x y (inr i) (inl q) l = absurd (omega (arith, place_from (e ∷ before) es x i, ap (λ (z : Placed). z.place) q))
same_place_after before (e ∷ es) x y (inr i) (inr j) l = same_place_after (e ∷ before) es x y i j l

pub index_rises : (h : History) (x y : Placed) → In x (placed h) → In y (placed h) → x.source ≡ y.source → x.place < y.place → x.index < y.index
index_rises h x y = index_rises_after [] h.entries x y

pub place_rises : (h : History) (x y : Placed) → In x (placed h) → In y (placed h) → x.source ≡ y.source → x.index < y.index → x.place < y.place
place_rises h x y i j s l = elim (cases_order x.place y.place) [
  | inl e ↦ absurd (omega (arith, ap (λ (z : Placed). z.index) (same_place_after [] h.entries x y i j e)))
  | inr (inl lt) ↦ lt
  | inr (inr gt) ↦ absurd (omega (arith, index_rises h y x j i (sym s) gt))
]

pub same_index : (h : History) (x y : Placed) → In x (placed h) → In y (placed h) → x.source ≡ y.source → x.index ≡ y.index → x ≡ y
same_index h x y i j s l = elim (cases_order x.place y.place) [
  | inl e ↦ same_place_after [] h.entries x y i j e
  | inr (inl lt) ↦ absurd (omega (arith, index_rises h x y i j s lt))
  | inr (inr gt) ↦ absurd (omega (arith, index_rises h y x j i (sym s) gt))
]
