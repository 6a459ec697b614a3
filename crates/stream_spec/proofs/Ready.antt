-- The moments that end a number, and its end, which is stable.
use Rattle.std.proofs.Common.{◌≡◌, ℕ, suc, ◌+◌, ◌<◌, ◌≤◌, Bool, true, false, cond, not, ◌⊎◌, inl, inr, List, [], ◌∷◌, ◌++◌, refl, ap, subst, sym, ◌∙◌, arith}
use Rattle.std.specs.Prelude.{◌&&◌, ◌==◌, nat_lt, nat_le, min}
use Rattle.std.specs.List.{list_any}
use Rattle.std.proofs.lemmas.Bool.{cases_Bool, cases_lt, true≢false, eq-eqb, ne_eqb, ltb-true, lt-ltb, le-ltb, and_parts, and_from, or_cases, or_left, or_right, not-true}
use Rattle.stream_spec.specs.Numbering.{Numbered, Falling, first_number, has_number, in_time, used, by_number, distinct_from, is_given_up}
use Rattle.stream_spec.specs.Lists.{In}
use Rattle.stream_spec.specs.Ready.{when, moments, least, end_of}
use Rattle.stream_spec.proofs.Lists.{in_left, in_right, in_append, in_when, when_in}
use Rattle.stream_spec.proofs.Matched.{in_by_number, used_in}
use Rattle.stream_spec.proofs.GivingUp.{is_cause, cause_at, cause_from, distinct_same}

-- ---- least
min_is : (m n : ℕ) → (min m n ≡ m) ⊎ (min m n ≡ n)
min_is m n = elim (cases_lt m n) [ inl lt ↦ inl (omega arith) | inr ge ↦ inr (omega arith) ]

pub least_below : (ms : List ℕ) (x : ℕ) → In x ms → least ms ≤ x
least_below [] x i = absurd i
least_below (m ∷ []) x (inl e) = omega arith
least_below (m ∷ []) x (inr i) = absurd i
least_below (m ∷ k ∷ ms) x (inl e) = omega arith
least_below (m ∷ k ∷ ms) x (inr i) = let l = least_below (k ∷ ms) x i in omega arith

pub least_in : (ms : List ℕ) (x : ℕ) → In x ms → In (least ms) ms
least_in [] x i = absurd i
least_in (m ∷ []) x i = inl refl
least_in (m ∷ k ∷ ms) x i = elim (min_is m (least (k ∷ ms))) [
  | inl e ↦ inl e
  | inr e ↦ inr (subst (λ (n : ℕ). In n (k ∷ ms)) (sym e) (least_in (k ∷ ms) k (inl refl)))
]

-- the member below all is the least
pub least_is : (ms : List ℕ) (x : ℕ) → In x ms → ((y : ℕ) → In y ms → x ≤ y) → least ms ≡ x
least_is ms x i f = let a = least_below ms x i in let b = f (least ms) (least_in ms x i) in omega arith

-- ---- moments
-- a moment of e itself, or one before
pub new_moment : (wait : ℕ) (e : Numbered) (past : List Numbered) (n m : ℕ) → In m (moments wait (e ∷ past) n)
    → ((m ≡ e.time) × ((in_time wait e past && e.number == n) ≡ true)) ⊎ (((m ≡ e.time + wait) × (nat_lt n e.number ≡ true)) ⊎ (((m ≡ e.time) × (nat_lt 64 (distinct_from (suc n) (e ∷ past)) ≡ true)) ⊎ In m (moments wait past n)))
new_moment wait e past n m i = elim (in_append m (when (in_time wait e past && e.number == n) e.time) (when (nat_lt n e.number) (e.time + wait) ++ (when (nat_lt 64 (distinct_from (suc n) (e ∷ past))) e.time ++ moments wait past n)) i) [
  | inl a ↦ let r = in_when (in_time wait e past && e.number == n) m e.time a in inl (r.1, r.0)
  | inr a ↦ elim (in_append m (when (nat_lt n e.number) (e.time + wait)) (when (nat_lt 64 (distinct_from (suc n) (e ∷ past))) e.time ++ moments wait past n) a) [
    | inl b ↦ let r = in_when (nat_lt n e.number) m (e.time + wait) b in inr (inl (r.1, r.0))
    | inr b ↦ elim (in_append m (when (nat_lt 64 (distinct_from (suc n) (e ∷ past))) e.time) (moments wait past n) b) [
      | inl c ↦ let r = in_when (nat_lt 64 (distinct_from (suc n) (e ∷ past))) m e.time c in inr (inr (inl (r.1, r.0)))
      | inr c ↦ inr (inr (inr c))
    ]
  ]
]

pub moment_before : (wait : ℕ) (e : Numbered) (past : List Numbered) (n m : ℕ) → In m (moments wait past n) → In m (moments wait (e ∷ past) n)
moment_before wait e past n m i = in_right m (when (in_time wait e past && e.number == n) e.time) (when (nat_lt n e.number) (e.time + wait) ++ (when (nat_lt 64 (distinct_from (suc n) (e ∷ past))) e.time ++ moments wait past n))
    (in_right m (when (nat_lt n e.number) (e.time + wait)) (when (nat_lt 64 (distinct_from (suc n) (e ∷ past))) e.time ++ moments wait past n) (in_right m (when (nat_lt 64 (distinct_from (suc n) (e ∷ past))) e.time) (moments wait past n) i))

-- an end that has come stays
pub end_stays : (wait : ℕ) (e : Numbered) (past : List Numbered) (n m : ℕ) → In m (moments wait past n) → m ≤ e.time → end_of wait (e ∷ past) n ≡ end_of wait past n
end_stays wait e past n m i l =
    let k = least (moments wait past n) in
    let below : k ≤ m = least_below (moments wait past n) m i in
    least_is (moments wait (e ∷ past) n) k (moment_before wait e past n k (least_in (moments wait past n) m i)) (λ y j. elim (new_moment wait e past n y j) [
      | inl a ↦ omega (arith, a.0)
      | inr (inl a) ↦ omega (arith, a.0)
      | inr (inr (inl a)) ↦ omega (arith, a.0)
      | inr (inr (inr a)) ↦ least_below (moments wait past n) y a
    ])

-- What is given up by t has a moment by t, and a moment by t tells that it came or is given up.
pub up_moment : (wait t n : ℕ) (past : List Numbered) → ((u : Numbered) → In u past → u.time ≤ t) → is_given_up wait past t n ≡ true → (m : ℕ) × In m (moments wait past n) × (m ≤ t)
up_moment wait t n [] c h = absurd (true≢false (sym h))
up_moment wait t n (e ∷ past) c h = elim (cases_Bool (is_given_up wait past t n)) [
  | inl g ↦ let r = up_moment wait t n past (λ u i. c u (inr i)) g in (r.0, moment_before wait e past n r.0 r.1, r.2)
  | inr still ↦ elim (or_cases (list_any (is_cause wait t n) (e ∷ past)) (nat_lt 64 (distinct_from (suc n) (e ∷ past))) h) [
    | inl a ↦ elim (or_cases (is_cause wait t n e) (list_any (is_cause wait t n) past) a) [
      | inl q ↦ let r = cause_at wait t n e q in (
        e.time + wait,
        in_right (e.time + wait) (when (in_time wait e past && e.number == n) e.time) (when (nat_lt n e.number) (e.time + wait) ++ (when (nat_lt 64 (distinct_from (suc n) (e ∷ past))) e.time ++ moments wait past n))
            (in_left (e.time + wait) (when (nat_lt n e.number) (e.time + wait)) (when (nat_lt 64 (distinct_from (suc n) (e ∷ past))) e.time ++ moments wait past n) (when_in (nat_lt n e.number) (e.time + wait) (e.time + wait) (lt-ltb n e.number r.0) refl)),
        r.1,
      )
      | inr q ↦ absurd (true≢false (sym (or_left (list_any (is_cause wait t n) past) (nat_lt 64 (distinct_from (suc n) past)) q) ∙ still))
    ]
    | inr b ↦ (
      e.time,
      in_right e.time (when (in_time wait e past && e.number == n) e.time) (when (nat_lt n e.number) (e.time + wait) ++ (when (nat_lt 64 (distinct_from (suc n) (e ∷ past))) e.time ++ moments wait past n))
          (in_right e.time (when (nat_lt n e.number) (e.time + wait)) (when (nat_lt 64 (distinct_from (suc n) (e ∷ past))) e.time ++ moments wait past n)
          (in_left e.time (when (nat_lt 64 (distinct_from (suc n) (e ∷ past))) e.time) (moments wait past n) (when_in (nat_lt 64 (distinct_from (suc n) (e ∷ past))) e.time e.time b refl))),
      c e (inl refl),
    )
  ]
]

pub distinct_more : (n : ℕ) (e : Numbered) (past : List Numbered) → distinct_from n past ≤ distinct_from n (e ∷ past)
distinct_more n e past = omega arith

pub moment_tells : (wait t n : ℕ) (past : List Numbered) (m : ℕ) → In m (moments wait past n) → m ≤ t → (has_number past n ≡ true) ⊎ (is_given_up wait past t n ≡ true)
moment_tells wait t n [] m i l = absurd i
moment_tells wait t n (e ∷ past) m i l = elim (new_moment wait e past n m i) [
  | inl a ↦ inl (or_left (e.number == n) (has_number past n) (and_parts (in_time wait e past) (e.number == n) a.1).1)
  | inr (inl a) ↦ inr (or_left (list_any (is_cause wait t n) (e ∷ past)) (nat_lt 64 (distinct_from (suc n) (e ∷ past))) (or_left (is_cause wait t n e) (list_any (is_cause wait t n) past) (cause_from wait t n e (ltb-true n e.number a.1) (omega (arith, a.0)))))
  | inr (inr (inl a)) ↦ inr (or_right (list_any (is_cause wait t n) (e ∷ past)) (nat_lt 64 (distinct_from (suc n) (e ∷ past))) a.1)
  | inr (inr (inr a)) ↦ elim (moment_tells wait t n past m a l) [
    | inl h ↦ inl (or_right (e.number == n) (has_number past n) h)
    | inr g ↦ inr (elim (or_cases (list_any (is_cause wait t n) past) (nat_lt 64 (distinct_from (suc n) past)) g) [
      | inl q ↦ or_left (list_any (is_cause wait t n) (e ∷ past)) (nat_lt 64 (distinct_from (suc n) (e ∷ past))) (or_right (is_cause wait t n e) (list_any (is_cause wait t n) past) q)
      | inr q ↦ let u = ltb-true 64 (distinct_from (suc n) past) q in let v = distinct_more (suc n) e past in or_right (list_any (is_cause wait t n) (e ∷ past)) (nat_lt 64 (distinct_from (suc n) (e ∷ past))) (lt-ltb 64 (distinct_from (suc n) (e ∷ past)) (omega arith))
    ])
  ]
]

-- the end of a used number is its arrival
pub end_used : (wait : ℕ) (past : List Numbered) (u : Numbered) → Falling past → In u (used wait past) → In u.time (moments wait past u.number) × (end_of wait past u.number ≡ u.time)
end_used wait [] u f i = absurd i
end_used wait (e ∷ past) u f i = go (in_time wait e past) refl (end_used wait past u f.1) i
  where
    earlier : In u (used wait past) → (In u (used wait past) → In u.time (moments wait past u.number) × (end_of wait past u.number ≡ u.time)) → In u.time (moments wait (e ∷ past) u.number) × (end_of wait (e ∷ past) u.number ≡ u.time)
    earlier j ih = let r = ih j in let l = f.0 u (used_in wait past u j) in (moment_before wait e past u.number u.time r.0, end_stays wait e past u.number u.time r.0 l ∙ r.1)

    mine : in_time wait e past ≡ true → In e.time (moments wait (e ∷ past) e.number) × (end_of wait (e ∷ past) e.number ≡ e.time)
    mine t =
        let q = and_parts (nat_le (first_number e.number past) e.number) (not (has_number past e.number) && not (is_given_up wait past e.time e.number)) t in
        let r = and_parts (not (has_number past e.number)) (not (is_given_up wait past e.time e.number)) q.1 in
        let no = not-true (has_number past e.number) r.0 in
        let wait_on = not-true (is_given_up wait past e.time e.number) r.1 in
        let here = in_left e.time (when (in_time wait e past && e.number == e.number) e.time) (when (nat_lt e.number e.number) (e.time + wait) ++ (when (nat_lt 64 (distinct_from (suc e.number) (e ∷ past))) e.time ++ moments wait past e.number))
        (when_in (in_time wait e past && e.number == e.number) e.time e.time (and_from (in_time wait e past) (e.number == e.number) t (eq-eqb e.number e.number refl)) refl) in (
          here,
          least_is (moments wait (e ∷ past) e.number) e.time here (λ y j. elim (new_moment wait e past e.number y j) [
            | inl a ↦ omega (arith, a.0)
            | inr (inl a) ↦ omega (arith, a.0)
            | inr (inr (inl a)) ↦ omega (arith, a.0)
            | inr (inr (inr a)) ↦ elim (cases_lt y e.time) [
              | inl lt ↦ absurd (elim (moment_tells wait e.time e.number past y a (omega arith)) [ inl h ↦ true≢false (sym h ∙ no) | inr g ↦ true≢false (sym g ∙ wait_on) ])
              | inr ge ↦ ge
            ]
          ]),
        )

    go : (b : Bool) → in_time wait e past ≡ b → (In u (used wait past) → In u.time (moments wait past u.number) × (end_of wait past u.number ≡ u.time))
        → In u (cond b (by_number e (used wait past)) (used wait past)) → In u.time (moments wait (e ∷ past) u.number) × (end_of wait (e ∷ past) u.number ≡ u.time)
    go false t ih j = earlier j ih
    go true t ih j = elim (in_by_number e u (used wait past) j) [
      | inl s ↦ subst (λ (v : Numbered). In v.time (moments wait (e ∷ past) v.number) × (end_of wait (e ∷ past) v.number ≡ v.time)) (sym s) (mine t)
      | inr k ↦ earlier k ih
    ]

-- numbers between which nothing came end at one moment
pub moments_same : (wait : ℕ) (past : List Numbered) (m n : ℕ) → m ≤ n → ((u : Numbered) → In u past → m ≤ u.number → n < u.number) → moments wait past m ≡ moments wait past n
moments_same wait [] m n l f = refl
moments_same wait (e ∷ past) m n l f =
    let r = moments_same wait past m n l (λ u i. f u (inr i)) in
    let d = distinct_same (suc m) (suc n) past (omega arith) (λ u i q. f u (inr i) (omega arith)) in
    rw (number_is, above_is, d, r) refl
  where
    number_is : (in_time wait e past && e.number == m) ≡ (in_time wait e past && e.number == n)
    number_is = ap (λ b. in_time wait e past && b) (elim (cases_lt e.number m) [
      | inl lt ↦ ne_eqb e.number m (omega arith) ∙ sym (ne_eqb e.number n (omega arith))
      | inr ge ↦ let g = f e (inl refl) ge in ne_eqb e.number m (omega arith) ∙ sym (ne_eqb e.number n (omega arith))
    ])

    above_is : nat_lt m e.number ≡ nat_lt n e.number
    above_is = elim (cases_lt e.number m) [
      | inl lt ↦ le-ltb m e.number (omega arith) ∙ sym (le-ltb n e.number (omega arith))
      | inr ge ↦ let g = f e (inl refl) ge in lt-ltb m e.number (omega arith) ∙ sym (lt-ltb n e.number g)
    ]

-- what a moment is
pub data Kind (wait : ℕ) (past : List Numbered) (n m : ℕ) : Type 0 where
  Came : has_number past n ≡ true → Kind wait past n m
  Above : (x : Numbered) → In x past → n < x.number → m ≡ x.time + wait → Kind wait past n m
  Crowd : 64 < distinct_from (suc n) past → Kind wait past n m

pub kind_of : (wait : ℕ) (past : List Numbered) (n m : ℕ) → In m (moments wait past n) → Kind wait past n m
kind_of wait [] n m i = absurd i
kind_of wait (e ∷ past) n m i = elim (new_moment wait e past n m i) [
  | inl a ↦ Came (or_left (e.number == n) (has_number past n) (and_parts (in_time wait e past) (e.number == n) a.1).1)
  | inr (inl a) ↦ Above e (inl refl) (ltb-true n e.number a.1) a.0
  | inr (inr (inl a)) ↦ Crowd (ltb-true 64 (distinct_from (suc n) (e ∷ past)) a.1)
  | inr (inr (inr a)) ↦ more (kind_of wait past n m a)
]
  where
    more : Kind wait past n m → Kind wait (e ∷ past) n m
    more (Came h) = Came (or_right (e.number == n) (has_number past n) h)
    more (Above x j l q) = Above x (inr j) l q
    more (Crowd h) = Crowd (let d = distinct_more (suc n) e past in omega arith)

pub above_moment : (wait : ℕ) (past : List Numbered) (n : ℕ) (x : Numbered) → In x past → n < x.number → In (x.time + wait) (moments wait past n)
above_moment wait [] n x i l = absurd i
above_moment wait (e ∷ past) n x (inl s) l = in_right (x.time + wait) (when (in_time wait e past && e.number == n) e.time) (when (nat_lt n e.number) (e.time + wait) ++ (when (nat_lt 64 (distinct_from (suc n) (e ∷ past))) e.time ++ moments wait past n))
    (in_left (x.time + wait) (when (nat_lt n e.number) (e.time + wait)) (when (nat_lt 64 (distinct_from (suc n) (e ∷ past))) e.time ++ moments wait past n)
    (when_in (nat_lt n e.number) (x.time + wait) (e.time + wait) (lt-ltb n e.number (omega (arith, ap (λ (z : Numbered). z.number) s))) (ap (λ (z : Numbered). z.time + wait) s)))
above_moment wait (e ∷ past) n x (inr i) l = moment_before wait e past n (x.time + wait) (above_moment wait past n x i l)
