-- Used packets came in time, and numbers are given up for one of two causes.
use Rattle.std.proofs.Common.{◌≡◌, ℕ, suc, ◌+◌, ◌≤◌, Bool, true, false, cond, not, ◌⊎◌, inl, inr, List, [], ◌∷◌, ◌++◌, length, refl, ap, subst, sym, ◌∙◌, arith}
use Rattle.std.specs.Prelude.{◌&&◌, ◌==◌, nat_lt, nat_le, if◌then◌else◌}
use Rattle.std.specs.List.{list_any}
use Rattle.std.proofs.lemmas.Bool.{cases_Bool, true≢false, eq-eqb, eqb-true, leb-true, le-leb, ltb-true, lt-ltb, and_parts, and_from, or_cases, or_left, or_right, not-true, not_from_false}
use Rattle.stream_spec.specs.Lists.{In}
use Rattle.stream_spec.specs.Numbering.{Numbered, Falling, in_time, used, by_number, has_number, distinct_from, first_number, is_given_up}
use Rattle.stream_spec.specs.Ready.{when, moments}
use Rattle.stream_spec.specs.InTime.{CameInTime, HasCome, IsOverdue, Different, IsOvertaken}
use Rattle.stream_spec.proofs.Lists.{in_left, when_in, any_in, in_any}
use Rattle.stream_spec.proofs.Matched.{in_by_number}
use Rattle.stream_spec.proofs.GivingUp.{one, has_in, in_has, is_cause, cause_at, cause_from}
use Rattle.stream_spec.proofs.Rising.{by_number_in, used_more}
use Rattle.stream_spec.proofs.Ready.{moment_before, moment_tells, up_moment}

-- ---- what is used
newer_used : (wait : ℕ) (newer : List Numbered) (x : Numbered) (older : List Numbered) → in_time wait x older ≡ true → In x (used wait (newer ++ x ∷ older))
newer_used wait [] x older t = rw t (by_number_in x x (used wait older) (inl refl))
newer_used wait (e ∷ newer) x older t = used_more wait e (newer ++ x ∷ older) x (newer_used wait newer x older t)

pub came_used : (wait : ℕ) (past : List Numbered) (x : Numbered) → CameInTime wait past x → In x (used wait past)
came_used wait past x c = subst (λ (us : List Numbered). In x (used wait us)) (sym c.stands) (newer_used wait c.newer x c.older c.timely)

pub used_came : (wait : ℕ) (past : List Numbered) (x : Numbered) → In x (used wait past) → CameInTime wait past x
used_came wait [] x i = absurd i
used_came wait (e ∷ past) x i = go (in_time wait e past) refl (λ j. used_came wait past x j) i
  where
    earlier : CameInTime wait past x → CameInTime wait (e ∷ past) x
    earlier r = record { newer = e ∷ r.newer; older = r.older; stands = ap (λ us. e ∷ us) r.stands; timely = r.timely }

    go : (b : Bool) → in_time wait e past ≡ b → (In x (used wait past) → CameInTime wait past x) → In x (cond b (by_number e (used wait past)) (used wait past)) → CameInTime wait (e ∷ past) x
    go false t ih j = earlier (ih j)
    go true t ih j = elim (in_by_number e x (used wait past) j) [
      | inl s ↦ record { newer = []; older = past; stands = ap (λ (u : Numbered). u ∷ past) (sym s); timely = subst (λ (u : Numbered). in_time wait u past ≡ true) (sym s) t }
      | inr k ↦ earlier (ih k)
    ]

-- ---- different numbers
numbers_from : ℕ → List Numbered → List ℕ
numbers_from n [] = []
numbers_from n (e ∷ past) = if nat_le n e.number && not (has_number past e.number) then e.number ∷ numbers_from n past else numbers_from n past

numbers_length : (n : ℕ) (past : List Numbered) → length (numbers_from n past) ≡ distinct_from n past
unfolding numbers_from
numbers_length n [] = refl
numbers_length n (e ∷ past) = go (nat_le n e.number && not (has_number past e.number)) (numbers_length n past)
  where
    go : (b : Bool) → length (numbers_from n past) ≡ distinct_from n past → length (cond b (e.number ∷ numbers_from n past) (numbers_from n past)) ≡ one b + distinct_from n past
    go true h = omega arith
    go false h = omega arith

numbers_in : (n : ℕ) (past : List Numbered) (m : ℕ) → In m (numbers_from n past) → (n ≤ m) × HasCome past m
unfolding numbers_from
numbers_in n [] m i = absurd i
numbers_in n (e ∷ past) m i = go (nat_le n e.number && not (has_number past e.number)) refl (λ j. numbers_in n past m j) i
  where
    before : (n ≤ m) × HasCome past m → (n ≤ m) × HasCome (e ∷ past) m
    before r = (r.0, (r.1.0, inr r.1.1, r.1.2))

    go : (b : Bool) → (nat_le n e.number && not (has_number past e.number)) ≡ b → (In m (numbers_from n past) → (n ≤ m) × HasCome past m) → In m (cond b (e.number ∷ numbers_from n past) (numbers_from n past)) → (n ≤ m) × HasCome (e ∷ past) m
    go false t ih j = before (ih j)
    go true t ih (inl q) = let l = leb-true n e.number (and_parts (nat_le n e.number) (not (has_number past e.number)) t).0 in (omega arith, (e, inl refl, sym q))
    go true t ih (inr j) = before (ih j)

numbers_differ : (n : ℕ) (past : List Numbered) → Different (numbers_from n past)
unfolding numbers_from
numbers_differ n [] = tt
numbers_differ n (e ∷ past) = go (nat_le n e.number && not (has_number past e.number)) refl (numbers_differ n past)
  where
    go : (b : Bool) → (nat_le n e.number && not (has_number past e.number)) ≡ b → Different (numbers_from n past) → Different (cond b (e.number ∷ numbers_from n past) (numbers_from n past))
    go false t d = d
    go true t d =
        let fresh = not-true (has_number past e.number) (and_parts (nat_le n e.number) (not (has_number past e.number)) t).1 in
        ((λ i. let r = numbers_in n past e.number i in true≢false (sym (in_has e.number past r.1.0 r.1.1 r.1.2) ∙ fresh)), d)

-- ms without the number k, which stands there at most once
without : ℕ → List ℕ → List ℕ
without k [] = []
without k (m ∷ ms) = if m == k then ms else m ∷ without k ms

without_length : (k : ℕ) (ms : List ℕ) → length ms ≤ suc (length (without k ms))
unfolding without
without_length k [] = omega arith
without_length k (m ∷ ms) = go (m == k) (without_length k ms)
  where
    go : (b : Bool) → length ms ≤ suc (length (without k ms)) → suc (length ms) ≤ suc (length (cond b ms (m ∷ without k ms)))
    go true h = omega arith
    go false h = omega arith

without_in : (k : ℕ) (ms : List ℕ) (x : ℕ) → Different ms → In x (without k ms) → In x ms × (x ≡ k → ⊥)
unfolding without
without_in k [] x d i = absurd i
without_in k (m ∷ ms) x d i = go (m == k) refl (λ j. without_in k ms x d.1 j) i
  where
    go : (b : Bool) → (m == k) ≡ b → (In x (without k ms) → In x ms × (x ≡ k → ⊥)) → In x (cond b ms (m ∷ without k ms)) → In x (m ∷ ms) × (x ≡ k → ⊥)
    go true t ih j = (inr j, λ q. d.0 (subst (λ (y : ℕ). In y ms) (q ∙ sym (eqb-true m k t)) j))
    go false t ih (inl s) = (inl s, λ q. true≢false (sym (eq-eqb m k (sym s ∙ q)) ∙ t))
    go false t ih (inr j) = let r = ih j in (inr r.0, r.1)

without_differ : (k : ℕ) (ms : List ℕ) → Different ms → Different (without k ms)
unfolding without
without_differ k [] d = tt
without_differ k (m ∷ ms) d = go (m == k) (without_differ k ms d.1)
  where
    go : (b : Bool) → Different (without k ms) → Different (cond b ms (m ∷ without k ms))
    go true r = d.1
    go false r = ((λ i. d.0 (without_in k ms m d.1 i).0), r)

-- different numbers from n on that came are no more than the count of these
no_more : (n : ℕ) (past : List Numbered) (ms : List ℕ) → Different ms → ((m : ℕ) → In m ms → (n ≤ m) × HasCome past m) → length ms ≤ distinct_from n past
no_more n [] [] d f = omega arith
no_more n [] (m ∷ ms) d f = absurd (f m (inl refl)).1.1
no_more n (e ∷ past) ms d f = go (nat_le n e.number && not (has_number past e.number)) refl (λ ks. no_more n past ks)
  where
    other : (m : ℕ) → (m ≡ e.number → ⊥) → HasCome (e ∷ past) m → HasCome past m
    other m ne (x, inl q, s) = absurd (ne (sym s ∙ ap (λ (u : Numbered). u.number) q))
    other m ne (x, inr j, s) = (x, j, s)

    again : (nat_le n e.number && not (has_number past e.number)) ≡ false → (m : ℕ) → n ≤ m → HasCome (e ∷ past) m → HasCome past m
    again t m l (x, inr j, s) = (x, j, s)
    again t m l (x, inl q, s) =
        let same : e.number ≡ m = ap (λ (u : Numbered). u.number) (sym q) ∙ s in
        elim (cases_Bool (has_number past e.number)) [
          | inl h ↦ let r = has_in e.number past h in (r.0, r.1, r.2 ∙ same)
          | inr h ↦ absurd (true≢false (sym (and_from (nat_le n e.number) (not (has_number past e.number)) (le-leb n e.number (omega arith)) (not_from_false (has_number past e.number) h)) ∙ t))
        ]

    go : (b : Bool) → (nat_le n e.number && not (has_number past e.number)) ≡ b → ((ks : List ℕ) → Different ks → ((m : ℕ) → In m ks → (n ≤ m) × HasCome past m) → length ks ≤ distinct_from n past) → length ms ≤ one b + distinct_from n past
    go false t ih = let r = ih ms d (λ m i. let g = f m i in (g.0, again t m g.0 g.1)) in omega arith
    go true t ih =
        let r = ih (without e.number ms) (without_differ e.number ms d) (λ m i. let w = without_in e.number ms m d i in let g = f m w.0 in (g.0, other m w.1 g.1)) in
        let l = without_length e.number ms in
        omega arith

-- ---- the two causes
pub up_why : (wait t n : ℕ) (past : List Numbered) → is_given_up wait past t n ≡ true → IsOverdue wait past t n ⊎ IsOvertaken past n
up_why wait t n past h = elim (or_cases (list_any (is_cause wait t n) past) (nat_lt 64 (distinct_from (suc n) past)) h) [
  | inl a ↦ let r = any_in (is_cause wait t n) past a in let c = cause_at wait t n r.0 r.2 in inl (record { greater = r.0; came = r.1; above = c.0; waited = c.1 })
  | inr b ↦ inr (record {
    numbers = numbers_from (suc n) past;
    many = let l = ltb-true 64 (distinct_from (suc n) past) b in omega (arith, numbers_length (suc n) past);
    different = numbers_differ (suc n) past;
    above = λ m i. let r = numbers_in (suc n) past m i in omega (arith, r.0);
    came = λ m i. (numbers_in (suc n) past m i).1;
  })
]

pub why_up : (wait t n : ℕ) (past : List Numbered) → IsOverdue wait past t n ⊎ IsOvertaken past n → is_given_up wait past t n ≡ true
why_up wait t n past (inl o) = or_left (list_any (is_cause wait t n) past) (nat_lt 64 (distinct_from (suc n) past)) (in_any (is_cause wait t n) past o.greater o.came (cause_from wait t n o.greater o.above o.waited))
why_up wait t n past (inr o) = or_right (list_any (is_cause wait t n) past) (nat_lt 64 (distinct_from (suc n) past))
    (let l = no_more (suc n) past o.numbers o.different (λ m i. (let a = o.above m i in omega arith, o.came m i)) in lt-ltb 64 (distinct_from (suc n) past) (omega (arith, l, o.many)))

-- ---- moments
-- what came has ended, and so has what is given up
came_ended : (wait n : ℕ) (past : List Numbered) → Falling past → first_number n past ≤ n → (t : ℕ) → ((u : Numbered) → In u past → u.time ≤ t) → has_number past n ≡ true → (m : ℕ) × In m (moments wait past n) × (m ≤ t)
came_ended wait n [] f l t c h = absurd (true≢false (sym h))
came_ended wait n (e ∷ past) f l t c h = elim (cases_Bool (has_number past n)) [
  | inl g ↦ let r = came_ended wait n past f.1 (subst (λ (k : ℕ). k ≤ n) (first_any past e.number n g) l) t (λ u i. c u (inr i)) g in (r.0, moment_before wait e past n r.0 r.1, r.2)
  | inr fresh ↦ elim (or_cases (e.number == n) (has_number past n) h) [ inl q ↦ mine (eqb-true e.number n q) fresh | inr g ↦ absurd (true≢false (sym g ∙ fresh)) ]
]
  where
    first_any : (ps : List Numbered) (a b : ℕ) → has_number ps n ≡ true → first_number a ps ≡ first_number b ps
    first_any [] a b g = absurd (true≢false (sym g))
    first_any (x ∷ ps) a b g = refl

    mine : e.number ≡ n → has_number past n ≡ false → (m : ℕ) × In m (moments wait (e ∷ past) n) × (m ≤ t)
    mine q fresh = elim (cases_Bool (is_given_up wait past e.time n)) [
      | inl g ↦ let r = up_moment wait e.time n past (λ u i. f.0 u i) g in let last = c e (inl refl) in (r.0, moment_before wait e past n r.0 r.1, omega (arith, r.2))
      | inr waits ↦
          let timely : in_time wait e past ≡ true = and_from (nat_le (first_number e.number past) e.number) (not (has_number past e.number) && not (is_given_up wait past e.time e.number))
          (le-leb (first_number e.number past) e.number (omega arith))
          (and_from (not (has_number past e.number)) (not (is_given_up wait past e.time e.number)) (not_from_false (has_number past e.number) (ap (has_number past) q ∙ fresh)) (not_from_false (is_given_up wait past e.time e.number) (ap (is_given_up wait past e.time) q ∙ waits))) in (
            e.time,
            in_left e.time (when (in_time wait e past && e.number == n) e.time) (when (nat_lt n e.number) (e.time + wait) ++ (when (nat_lt 64 (distinct_from (suc n) (e ∷ past))) e.time ++ moments wait past n))
                (when_in (in_time wait e past && e.number == n) e.time e.time (and_from (in_time wait e past) (e.number == n) timely (eq-eqb e.number n q)) refl),
            c e (inl refl),
          )
    ]

pub ended_by : (wait t n : ℕ) (past : List Numbered) → Falling past → ((u : Numbered) → In u past → u.time ≤ t) → first_number n past ≤ n → (has_number past n ≡ true) ⊎ (is_given_up wait past t n ≡ true) → (m : ℕ) × In m (moments wait past n) × (m ≤ t)
ended_by wait t n past f c l (inl h) = came_ended wait n past f l t c h
ended_by wait t n past f c l (inr g) = up_moment wait t n past c g

pub ended_tells : (wait t n : ℕ) (past : List Numbered) → (m : ℕ) × In m (moments wait past n) × (m ≤ t) → (has_number past n ≡ true) ⊎ (is_given_up wait past t n ≡ true)
ended_tells wait t n past (m, i, l) = moment_tells wait t n past m i l
