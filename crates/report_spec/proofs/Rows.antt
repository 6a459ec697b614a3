-- The rows of numbers that were lost have as many numbers as were lost.
use Rattle.std.proofs.Common.{◌≡◌, ℕ, zero, suc, ◌+◌, ◌-◌, ◌<◌, ◌≤◌, Bool, true, false, cond, List, [], ◌∷◌, map, refl, ap, sym, ◌∙◌, arith, inl, inr}
use Rattle.std.specs.Prelude.{◌==◌, ◌&&◌, not, max, nat_lt, nat_le, if◌then◌else◌}
use Rattle.std.specs.List.{sum_by}
use Rattle.std.specs.List.{list_any}
use Rattle.std.proofs.lemmas.Bool.{cases_lt, eqb-true, ne_eqb, leb-true, le-leb, lt-leb, le-ltb, and_parts}
use Rattle.std.proofs.lemmas.List.Sums.{sum_by-cons, sum_by-append}
use Rattle.stream_spec.specs.Lists.{In}
use Rattle.stream_spec.proofs.Lists.{HeadedBy, headed_with}
use Rattle.stream_spec.proofs.Matched.{used_in}
use Rattle.stream_spec.proofs.Rising.{used_rises, used_more, by_number_in}
use Rattle.stream_spec.specs.Numbering.{Numbered, RisingNumbers, used, in_time, by_number, is_given_up, has_number, first_number, greatest, distinct_from}
use Rattle.stream_spec.proofs.GivingUp.{distinct_split, one, in_has}
use Rattle.report_spec.specs.Numbers.{Row, Lost, with_number, missing, lost_before, lost_from, lost_among, lost}
use Rattle.report_spec.specs.Missed.{lost_count}
use Rattle.report_spec.specs.ShowLaws.{size}
use Rattle.std.proofs.Math.Nat.{zero-add as from_zero}

-- ---- rows
abbrev row_size : Row → ℕ
row_size row = suc row.1 - row.0

abbrev Ordered : List Row → Type 0
Ordered [] = Unit {0}
Ordered (row ∷ rows) = (row.0 ≤ row.1) × Ordered rows

abbrev total : List Row → ℕ
total [] = 0
total (row ∷ rows) = row_size row + total rows

with_ordered : (n : ℕ) (rows : List Row) → Ordered rows → Ordered (with_number n rows)
with_ordered n [] o = (omega arith, tt)
with_ordered n (row ∷ rows) o = go (row.0 == suc n) refl
  where
    go : (b : Bool) → (row.0 == suc n) ≡ b → Ordered (cond b ((n, row.1) ∷ rows) ((n, n) ∷ row ∷ rows))
    go true e = let same = eqb-true row.0 (suc n) e in (omega (arith, same, o.0), o.1)
    go false e = (omega arith, o)

with_total : (n : ℕ) (rows : List Row) → Ordered rows → total (with_number n rows) ≡ suc (total rows)
with_total n [] o = omega arith
with_total n (row ∷ rows) o = go (row.0 == suc n) refl
  where
    go : (b : Bool) → (row.0 == suc n) ≡ b → total (cond b ((n, row.1) ∷ rows) ((n, n) ∷ row ∷ rows)) ≡ suc (row_size row + total rows)
    go true e = let same = eqb-true row.0 (suc n) e in omega (arith, same, o.0)
    go false e = omega arith

-- of the k numbers from low on, how many did not come
abbrev absent : (ℕ → Bool) → ℕ → ℕ → ℕ
absent came low zero = 0
absent came low (suc k) = (if came low then 0 else 1) + absent came (suc low) k

missing_ordered : (came : ℕ → Bool) (low k : ℕ) → Ordered (missing came low k)
missing_ordered came low zero = tt
missing_ordered came low (suc k) = go (came low) (missing_ordered came (suc low) k)
  where
    go : (b : Bool) → Ordered (missing came (suc low) k) → Ordered (cond b (missing came (suc low) k) (with_number low (missing came (suc low) k)))
    go true o = o
    go false o = with_ordered low (missing came (suc low) k) o

missing_total : (came : ℕ → Bool) (low k : ℕ) → total (missing came low k) ≡ absent came low k
missing_total came low zero = refl
missing_total came low (suc k) = go (came low) (missing_total came (suc low) k)
  where
    go : (b : Bool) → total (missing came (suc low) k) ≡ absent came (suc low) k → total (cond b (missing came (suc low) k) (with_number low (missing came (suc low) k))) ≡ cond b 0 1 + absent came (suc low) k
    go true e = omega (arith, e)
    go false e = omega (arith, e, with_total low (missing came (suc low) k) (missing_ordered came (suc low) k))

absent_split : (came : ℕ → Bool) (low a b : ℕ) → absent came low (a + b) ≡ absent came low a + absent came (low + a) b
absent_split came low zero b =
    let l : low + 0 ≡ low = omega arith in
    let m : 0 + b ≡ b = omega arith in
    ap (absent came low) m ∙ sym (ap (λ n. 0 + absent came n b) l ∙ from_zero (absent came low b))
absent_split came low (suc a) b =
    let l : suc low + a ≡ low + suc a = omega arith in
    let m : suc a + b ≡ suc (a + b) = omega arith in
    ap (absent came low) m
    ∙ (ap (λ n. (if came low then 0 else 1) + n) (absent_split came (suc low) a b ∙ ap (λ n. absent came (suc low) a + absent came n b) l)
    ∙ joined (if came low then 0 else 1) (absent came (suc low) a) (absent came (low + suc a) b))
  where
    joined : (x y z : ℕ) → x + (y + z) ≡ (x + y) + z
    joined x y z = omega arith

-- ---- one row after another
abbrev Sizes : List Lost → ℕ
Sizes ls = sum_by (λ l. size l) ls

sizes_of : (at : ℕ) (rows : List Row) → Sizes (map (λ row. record { row = row; at = at }) rows) ≡ total rows
sizes_of at [] = refl
sizes_of at (row ∷ rows) = sum_by-cons (λ l. size l) (record { row = row; at = at }) (map (λ row. record { row = row; at = at }) rows) ∙ ap (λ n. row_size row + n) (sizes_of at rows)

module _ (wait : ℕ) (past : List Numbered) where
  abbrev came : ℕ → Bool
  came n = has_number past n

  abbrev last_of : ℕ → List Numbered → ℕ
  last_of n [] = n
  last_of n (u ∷ us) = last_of u.number us

  last_up : (n : ℕ) (us : List Numbered) → RisingNumbers us → ((u : Numbered) → In u us → n < u.number) → n ≤ last_of n us
  last_up n [] r a = omega arith
  last_up n (u ∷ us) r a = omega (arith, a u (inl refl), last_up u.number us r.1 r.0)

  sizes_from : (n : ℕ) (us : List Numbered) → RisingNumbers us → ((u : Numbered) → In u us → n < u.number) → ((u : Numbered) → In u us → came u.number ≡ true)
      → Sizes (lost_from wait past n us) ≡ absent came (suc n) (last_of n us - n)
  sizes_from n [] r a p =
      let none : n - n ≡ 0 = omega arith in
      sym (ap (absent came (suc n)) none)
  sizes_from n (u ∷ us) r a p =
      let low = a u (inl refl) in
      let m = u.number in
      let up = last_up m us r.1 r.0 in
      let parts : last_of m us - n ≡ (m - suc n) + suc (last_of m us - m) = omega (arith, low, up) in
      let there : suc n + (m - suc n) ≡ m = omega (arith, low) in
      sum_by-append (λ l. size l) (lost_before wait past n u) (lost_from wait past m us)
      ∙ (ap (λ k. k + Sizes (lost_from wait past m us)) (sizes_of _ (missing came (suc n) (m - suc n)) ∙ missing_total came (suc n) (m - suc n))
      ∙ (ap (λ k. absent came (suc n) (m - suc n) + k) (sizes_from m us r.1 r.0 (λ v i. p v (inr i)) ∙ sym (present m (last_of m us - m) (p u (inl refl))))
      ∙ (ap (λ k. absent came (suc n) (m - suc n) + absent came k (suc (last_of m us - m))) (sym there)
      ∙ (sym (absent_split came (suc n) (m - suc n) (suc (last_of m us - m)))
      ∙ ap (absent came (suc n)) (sym parts)))))
    where
      present : (m k : ℕ) → came m ≡ true → absent came m (suc k) ≡ absent came (suc m) k
      present m k e = ap (λ b. cond b 0 1 + absent came (suc m) k) e ∙ from_zero (absent came (suc m) k)

  -- those that did not come, and those that did
  all_numbers : (low k : ℕ) → absent came low k + distinct_from low past ≡ k + distinct_from (low + k) past
  all_numbers low zero =
      let l : low + 0 ≡ low = omega arith in
      sym (ap (λ n. 0 + distinct_from n past) l)
  all_numbers low (suc k) = go (came low) (distinct_split low past) (all_numbers (suc low) k)
    where
      go : (b : Bool) → distinct_from low past ≡ one b + distinct_from (suc low) past → absent came (suc low) k + distinct_from (suc low) past ≡ k + distinct_from (suc low + k) past
          → (cond b 0 1 + absent came (suc low) k) + distinct_from low past ≡ suc k + distinct_from (low + suc k) past
      go true d h = let l : low + suc k ≡ suc low + k = omega arith in rw (ap (λ n. distinct_from n past) l) (omega (arith, d, h))
      go false d h = let l : low + suc k ≡ suc low + k = omega arith in rw (ap (λ n. distinct_from n past) l) (omega (arith, d, h))

-- ---- the first and the greatest
none_above : (n : ℕ) (past : List Numbered) → greatest past < n → distinct_from n past ≡ 0
none_above n [] l = refl
none_above n (e ∷ past) l = rw (lt-leb n e.number (omega (arith, l))) (from_zero (distinct_from n past) ∙ none_above n past (omega (arith, l)))

below_greatest : (past : List Numbered) (u : Numbered) → In u past → u.number ≤ greatest past
below_greatest [] u i = absurd i
below_greatest (e ∷ past) u (inl q) = omega (arith, ap (λ (x : Numbered). x.number) q)
below_greatest (e ∷ past) u (inr i) = omega (arith, below_greatest past u i)

first_below : (n : ℕ) (past : List Numbered) → first_number n past ≤ max n (greatest past)
first_below n [] = omega arith
first_below n (e ∷ past) = omega (arith, first_below e.number past)

none_greater : (wait t n : ℕ) (past : List Numbered) → greatest past < n → list_any (λ x. nat_lt n x.number && nat_le (x.time + wait) t) past ≡ false
none_greater wait t n [] l = refl
none_greater wait t n (e ∷ past) l = rw (le-ltb n e.number (omega (arith, l))) (none_greater wait t n past (omega (arith, l)))

none_has : (n : ℕ) (past : List Numbered) → greatest past < n → has_number past n ≡ false
none_has n [] l = refl
none_has n (e ∷ past) l = rw (ne_eqb e.number n (λ q. omega (arith, l, q))) (none_has n past (omega (arith, l)))

module _ (wait : ℕ) where
  -- a packet with a greater number than all before it is used
  greater_in_time : (e : Numbered) (past : List Numbered) → greatest past < e.number → in_time wait e past ≡ true
  greater_in_time e past l =
      let first : first_number e.number past ≤ e.number = omega (arith, l, first_below e.number past) in
      rw (le-leb (first_number e.number past) e.number first, none_has e.number past l, none_greater wait e.time e.number past l, none_above (suc e.number) past (omega (arith, l))) refl

  opens : (e : Numbered) → in_time wait e [] ≡ true
  opens e = rw (le-leb e.number e.number (omega arith)) refl

  headed : (n : ℕ) (e : Numbered) (past : List Numbered) → HeadedBy (λ u. u.number) (first_number n (e ∷ past)) (used wait (e ∷ past))
  headed n e [] = rw (opens e) refl
  headed n e (x ∷ past) = go (in_time wait e (x ∷ past)) refl (headed e.number x past)
    where
      first : ℕ
      first = first_number e.number (x ∷ past)

      go : (b : Bool) → in_time wait e (x ∷ past) ≡ b → HeadedBy (λ u. u.number) first (used wait (x ∷ past)) → HeadedBy (λ u. u.number) first (cond b (by_number e (used wait (x ∷ past))) (used wait (x ∷ past)))
      go true t h = headed_with (λ (u : Numbered). u.number) first e (used wait (x ∷ past)) h (leb-true first e.number (and_parts (nat_le first e.number) (not (has_number (x ∷ past) e.number) && not (is_given_up wait (x ∷ past) e.time e.number)) t).0)
      go false t h = h

  abbrev Greatest : List Numbered → Type 0
  Greatest past = (u : Numbered) × In u (used wait past) × (u.number ≡ greatest past)

  newest : (e : Numbered) (past : List Numbered) → in_time wait e past ≡ true → In e (used wait (e ∷ past))
  newest e past t = rw t (by_number_in e e (used wait past) (inl refl))

  greatest_used : (e : Numbered) (past : List Numbered) → Greatest (e ∷ past)
  greatest_used e [] = (e, newest e [] (opens e), omega arith)
  greatest_used e (x ∷ past) = elim (cases_lt (greatest (x ∷ past)) e.number) [
    | inl low ↦ (e, newest e (x ∷ past) (greater_in_time e (x ∷ past) low), omega (arith, low))
    | inr high ↦ let r = greatest_used x past in (r.0, used_more wait e (x ∷ past) r.0 r.1, omega (arith, r.2, high))
  ]

  -- ---- the last of those that rise
  last_in : (past : List Numbered) (n : ℕ) (us : List Numbered) → n ≤ greatest past → ((u : Numbered) → In u us → In u past) → last_of wait past n us ≤ greatest past
  last_in past n [] l p = l
  last_in past n (u ∷ us) l p = last_in past u.number us (below_greatest past u (p u (inl refl))) (λ v i. p v (inr i))

  last_least : (past : List Numbered) (n : ℕ) (us : List Numbered) → RisingNumbers us → (u : Numbered) → In u us → u.number ≤ last_of wait past n us
  last_least past n [] r u i = absurd i
  last_least past n (v ∷ us) r u (inl q) = omega (arith, ap (λ (x : Numbered). x.number) q, last_up wait past v.number us r.1 r.0)
  last_least past n (v ∷ us) r u (inr i) = last_least past v.number us r.1 u i

  by_used : (past us : List Numbered) (first : ℕ) → RisingNumbers us → ((u : Numbered) → In u us → In u past) → HeadedBy (λ u. u.number) first us → (top : Numbered) → In top us → top.number ≡ greatest past
      → Sizes (lost_among wait past us) ≡ (greatest past - first) - distinct_from (suc first) past
  by_used past [] first r p h top i g = absurd i
  by_used past (u ∷ us) first r p h top i g =
      let last = last_of wait past u.number us in
      let is : last ≡ greatest past = omega (arith, g, last_in past u.number us (below_greatest past u (p u (inl refl))) (λ v j. p v (inr j)), top_low top i g) in
      let sizes = sizes_from wait past u.number us r.1 r.0 (λ v j. in_has v.number past v (p v (inr j)) refl) in
      let all = all_numbers wait past (suc u.number) (last - u.number) in
      let none = none_above (suc u.number + (last - u.number)) past (omega (arith, is)) in
      let count : Sizes (lost_from wait past u.number us) ≡ (greatest past - u.number) - distinct_from (suc u.number) past = omega (arith, sizes, all, none, is) in
      count ∙ ap (λ n. (greatest past - n) - distinct_from (suc n) past) h
    where
      top_low : (top : Numbered) → In top (u ∷ us) → top.number ≡ greatest past → greatest past ≤ last_of wait past u.number us
      top_low top (inl q) g = omega (arith, g, ap (λ (x : Numbered). x.number) q, last_up wait past u.number us r.1 r.0)
      top_low top (inr j) g = omega (arith, g, last_least past u.number us r.1 top j)

  pub rows_are_lost : (past : List Numbered) → sum_by (λ l. size l) (lost wait past) ≡ lost_count past
  rows_are_lost [] = refl
  rows_are_lost (e ∷ past) =
      let top = greatest_used e past in
      by_used (e ∷ past) (used wait (e ∷ past)) (first_number 0 (e ∷ past)) (used_rises wait (e ∷ past)) (λ u i. used_in wait (e ∷ past) u i) (headed 0 e past) top.0 top.1 top.2
