-- How many numbers came, and which numbers are given up.
use Rattle.std.proofs.Common.{◌≡◌, ℕ, suc, ◌+◌, ◌<◌, ◌≤◌, Bool, true, false, not, inl, inr, List, [], ◌∷◌, refl, ap, sym, ◌∙◌, arith}
use Rattle.std.specs.Prelude.{◌&&◌, ◌==◌, nat_lt, nat_le, if◌then◌else◌}
use Rattle.std.specs.List.{list_any}
use Rattle.std.proofs.lemmas.Bool.{cases_lt, true≢false, cases_order, eq-eqb, eqb-true, ne_eqb, leb-true, lt-leb, ltb-true, lt-ltb, le-leb, and_parts, and_from, or_cases, or_left, or_right}
use Rattle.stream_spec.specs.Numbering.{Numbered, has_number, distinct_from, is_given_up}
use Rattle.stream_spec.specs.Lists.{In}
use Rattle.stream_spec.proofs.Lists.{any_in, in_any}

pub has_in : (n : ℕ) (es : List Numbered) → has_number es n ≡ true → (u : Numbered) × In u es × (u.number ≡ n)
has_in n es h = let r = any_in (λ (e : Numbered). e.number == n) es h in (r.0, r.1, eqb-true r.0.number n r.2)

pub in_has : (n : ℕ) (es : List Numbered) (u : Numbered) → In u es → u.number ≡ n → has_number es n ≡ true
in_has n es u i e = in_any (λ (x : Numbered). x.number == n) es u i (eq-eqb u.number n e)

-- ---- counts
abbrev pub one : Bool → ℕ
one b = if b then 1 else 0

pub distinct_split : (n : ℕ) (past : List Numbered) → distinct_from n past ≡ one (has_number past n) + distinct_from (suc n) past
distinct_split n [] = refl
distinct_split n (e ∷ past) = elim (cases_order e.number n) [
  | inl q ↦ let s : has_number past e.number ≡ has_number past n = ap (has_number past) q in
      rw (eq-eqb e.number n q, s, le-leb n e.number (omega arith), lt-leb (suc n) e.number (omega arith)) (same (has_number past n) (distinct_split n past))
  | inr (inl lt) ↦ rw (ne_eqb e.number n (omega arith), lt-leb n e.number (omega arith), lt-leb (suc n) e.number (omega arith)) (omega (arith, distinct_split n past))
  | inr (inr gt) ↦ rw (ne_eqb e.number n (omega arith), le-leb n e.number (omega arith), le-leb (suc n) e.number (omega arith)) (omega (arith, distinct_split n past))
]
  where
    same : (b : Bool) → distinct_from n past ≡ one b + distinct_from (suc n) past → one (not b) + distinct_from n past ≡ 1 + (0 + distinct_from (suc n) past)
    same true h = omega arith
    same false h = omega arith

pub distinct_down : (m n : ℕ) (past : List Numbered) → m ≤ n → distinct_from n past ≤ distinct_from m past
distinct_down m n [] l = omega arith
distinct_down m n (e ∷ past) l = go (nat_le m e.number) refl (nat_le n e.number) refl (not (has_number past e.number)) (distinct_down m n past l)
  where
    go : (s : Bool) → nat_le m e.number ≡ s → (t : Bool) → nat_le n e.number ≡ t → (b : Bool) → distinct_from n past ≤ distinct_from m past → one (t && b) + distinct_from n past ≤ one (s && b) + distinct_from m past
    go false p true q b h = let u = leb-true n e.number q in absurd (true≢false (sym (le-leb m e.number (omega arith)) ∙ p))
    go true p true q b h = omega arith
    go true p false q b h = omega arith
    go false p false q b h = omega arith

-- no number from m on below n came
pub distinct_same : (m n : ℕ) (past : List Numbered) → m ≤ n → ((u : Numbered) → In u past → m ≤ u.number → n ≤ u.number) → distinct_from m past ≡ distinct_from n past
distinct_same m n [] l f = refl
distinct_same m n (e ∷ past) l f =
    let r = distinct_same m n past l (λ u i. f u (inr i)) in
    elim (cases_lt e.number m) [
      | inl lt ↦ rw (lt-leb m e.number lt, lt-leb n e.number (omega arith)) (omega (arith, r))
      | inr ge ↦ let g = f e (inl refl) ge in rw (le-leb m e.number ge, le-leb n e.number g) (omega (arith, r))
    ]

-- ---- giving up
abbrev pub is_cause : ℕ → ℕ → ℕ → Numbered → Bool
is_cause wait t n x = nat_lt n x.number && nat_le (x.time + wait) t

pub up_weaker : (wait t t' m n : ℕ) (past past' : List Numbered) → ((x : Numbered) → In x past → is_cause wait t n x ≡ true → list_any (is_cause wait t' m) past' ≡ true)
    → distinct_from (suc n) past ≤ distinct_from (suc m) past' → is_given_up wait past t n ≡ true → is_given_up wait past' t' m ≡ true
up_weaker wait t t' m n past past' f d h = elim (or_cases (list_any (is_cause wait t n) past) (nat_lt 64 (distinct_from (suc n) past)) h) [
  | inl a ↦ let r = any_in (is_cause wait t n) past a in or_left (list_any (is_cause wait t' m) past') (nat_lt 64 (distinct_from (suc m) past')) (f r.0 r.1 r.2)
  | inr b ↦ let u = ltb-true 64 (distinct_from (suc n) past) b in or_right (list_any (is_cause wait t' m) past') (nat_lt 64 (distinct_from (suc m) past')) (lt-ltb 64 (distinct_from (suc m) past') (omega arith))
]

pub cause_at : (wait t n : ℕ) (x : Numbered) → is_cause wait t n x ≡ true → (n < x.number) × (x.time + wait ≤ t)
cause_at wait t n x h = let r = and_parts (nat_lt n x.number) (nat_le (x.time + wait) t) h in (ltb-true n x.number r.0, leb-true (x.time + wait) t r.1)

pub cause_from : (wait t n : ℕ) (x : Numbered) → n < x.number → x.time + wait ≤ t → is_cause wait t n x ≡ true
cause_from wait t n x a b = and_from (nat_lt n x.number) (nat_le (x.time + wait) t) (lt-ltb n x.number a) (le-leb (x.time + wait) t b)

pub up_later : (wait t t' n : ℕ) (past : List Numbered) → t ≤ t' → is_given_up wait past t n ≡ true → is_given_up wait past t' n ≡ true
up_later wait t t' n past l h = up_weaker wait t t' n n past past (λ x i c. let r = cause_at wait t n x c in in_any (is_cause wait t' n) past x i (cause_from wait t' n x r.0 (omega (arith, r.1)))) (omega arith) h

pub up_below : (wait t m n : ℕ) (past : List Numbered) → m ≤ n → is_given_up wait past t n ≡ true → is_given_up wait past t m ≡ true
up_below wait t m n past l h = up_weaker wait t t m n past past (λ x i c. let r = cause_at wait t n x c in in_any (is_cause wait t m) past x i (cause_from wait t m x (omega (arith, r.0)) r.1)) (distinct_down (suc m) (suc n) past (omega arith)) h

pub up_more : (wait t n : ℕ) (e : Numbered) (past : List Numbered) → is_given_up wait past t n ≡ true → is_given_up wait (e ∷ past) t n ≡ true
up_more wait t n e past h = up_weaker wait t t n n past (e ∷ past) (λ x i c. or_right (is_cause wait t n e) (list_any (is_cause wait t n) past) (in_any (is_cause wait t n) past x i c)) (omega arith) h
