-- Each step of a tracker keeps `HoldsNumbers`.
use Rattle.std.proofs.Common.{◌≡◌, ℕ, suc, ◌+◌, ◌<◌, ◌≤◌, Bool, true, false, cond, not, ◌⊎◌, inl, inr, List, [], ◌∷◌, ◌++◌, length, refl, ap, subst, sym, ◌∙◌, arith, append_assoc}
use Rattle.std.specs.Prelude.{◌&&◌, ◌||◌, ◌==◌, nat_lt, nat_le}
use Rattle.std.specs.List.{list_any}
use Rattle.std.proofs.lemmas.Bool.{cases_lt, true≢false, leb-true, le-leb, lt-leb, and_parts, and_from, and_right, or_right, false_from_ne_true, not-true, not_from_true, not_from_false}
use Rattle.stream_spec.specs.Numbering.{Numbered, first_number, has_number, in_time, by_number, used, distinct_from, is_given_up}
use Rattle.stream_spec.specs.Lists.{In}
use Rattle.stream_spec.proofs.Lists.{any_in, in_any, in_right, in_append}
use Rattle.stream_spec.proofs.Matched.{in_by_number, used_in}
use Rattle.stream_spec.proofs.Rising.{by_number_in, length_by_number, rising_put}
use Rattle.stream_spec.proofs.GivingUp.{has_in, in_has, one, distinct_split, distinct_same, is_cause, cause_at, cause_from, up_weaker, up_later, up_below, up_more}
use Rattle.reorder_buffer.specs.Holding.{HoldsNumbers}
use Rattle.stream_spec.proofs.Settled.{by_number_behind}

pub later : (wait : ℕ) (past : List Numbered) (t t' first front : ℕ) (out held : List Numbered) → t ≤ t' → HoldsNumbers wait past t first front out held → HoldsNumbers wait past t' first front out held
later wait past t t' first front out held l h = record {
  used_is = h.used_is;
  first_is = h.first_is;
  begun = h.begun;
  low = h.low;
  high = h.high;
  rising = h.rising;
  came = λ u i. let c = h.came u i in omega arith;
  all = h.all;
  count = h.count;
  ended = λ n a b. elim (h.ended n a b) [ inl c ↦ inl c | inr g ↦ inr (up_later wait t t' n past l g) ];
}

pub held_in_past : (wait : ℕ) (past : List Numbered) (t first front : ℕ) (out held : List Numbered) → HoldsNumbers wait past t first front out held → (u : Numbered) → In u held → In u past
held_in_past wait past t first front out held h u i = used_in wait past u (subst (λ (us : List Numbered). In u us) (sym h.used_is) (in_right u out held i))

-- the number at the front came
pub come : (wait : ℕ) (past : List Numbered) (t first : ℕ) (out : List Numbered) (x : Numbered) (held : List Numbered)
    → HoldsNumbers wait past t first x.number out (x ∷ held) → HoldsNumbers wait past t first (suc x.number) (out ++ x ∷ []) held
come wait past t first out x held h =
    let here : has_number past x.number ≡ true = in_has x.number past x (held_in_past wait past t first x.number out (x ∷ held) h x (inl refl)) refl in
    let split = distinct_split x.number past in
    let count = h.count in
    record {
      used_is = h.used_is ∙ sym (append_assoc out (x ∷ []) held);
      first_is = h.first_is;
      begun = omega (arith, h.begun);
      low = λ u i. elim (in_append u out (x ∷ []) i) [ inl j ↦ let r = h.low u j in omega arith | inr (inl e) ↦ omega (arith, ap (λ (z : Numbered). z.number) e) | inr (inr j) ↦ absurd j ];
      high = λ u i. h.rising.0 u i;
      rising = h.rising.1;
      came = h.came;
      all = λ u i l. let r = h.all u i (omega arith) in (r.0, behind u l r.0 r.2 r.1, r.2, r.3);
      count = let e : one (has_number past x.number) ≡ 1 = rw here in omega arith;
      ended = λ n a b. elim (cases_lt n x.number) [ inl l ↦ h.ended n a l | inr g ↦ let e : n ≡ x.number = omega arith in inl (rw e here) ];
    }
  where
    behind : (u : Numbered) → suc x.number ≤ u.number → (v : Numbered) → v.number ≡ u.number → In v (x ∷ held) → In v held
    behind u l v e (inl s) = absurd (omega (arith, ap (λ (z : Numbered). z.number) s))
    behind u l v e (inr j) = j

-- the number at the front is given up
pub jump : (wait : ℕ) (past : List Numbered) (t first front : ℕ) (out : List Numbered) (x : Numbered) (held : List Numbered) → is_given_up wait past t front ≡ true
    → HoldsNumbers wait past t first front out (x ∷ held) → HoldsNumbers wait past t first x.number out (x ∷ held)
jump wait past t first front out x held g h =
    let hx = h.high x (inl refl) in
    record {
      used_is = h.used_is;
      first_is = h.first_is;
      begun = omega (arith, h.begun);
      low = λ u i. let r = h.low u i in omega arith;
      high = from_x;
      rising = h.rising;
      came = h.came;
      all = λ u i l. h.all u i (omega arith);
      count = sym (distinct_same front x.number past hx above) ∙ h.count;
      ended = λ n a b. elim (cases_lt n front) [
        | inl l ↦ h.ended n a l
        | inr ge ↦ inr (up_weaker wait t t n front past past
            (λ y i c. let r = cause_at wait t front y c in let y_above = above y i (omega (arith, r.0)) in in_any (is_cause wait t n) past y i (cause_from wait t n y (omega arith) r.1))
            (let s = distinct_same (suc front) (suc n) past (omega arith) (λ u i l. let v = above u i (omega arith) in omega arith) in omega arith) g)
      ];
    }
  where
    from_x : (u : Numbered) → In u (x ∷ held) → x.number ≤ u.number
    from_x u (inl e) = omega (arith, ap (λ (z : Numbered). z.number) e)
    from_x u (inr j) = let r = h.rising.0 u j in omega arith

    above : (u : Numbered) → In u past → front ≤ u.number → x.number ≤ u.number
    above u i l = let r = h.all u i l in let v = from_x r.0 r.1 in omega (arith, r.2)

-- ---- arrivals
-- a number from the front on that is not held, while the front waits
pub arrive : (wait : ℕ) (past : List Numbered) (first front : ℕ) (out held : List Numbered) (e : Numbered) → HoldsNumbers wait past e.time first front out held
    → is_given_up wait past e.time front ≡ false → front ≤ e.number → has_number held e.number ≡ false
    → (in_time wait e past ≡ true) × HoldsNumbers wait (e ∷ past) e.time first front out (by_number e held)
arrive wait past first front out held e h waits l fresh = (
  in_time_is,
  record {
    used_is = ap (λ t. cond t (by_number e (used wait past)) (used wait past)) in_time_is ∙ (ap (by_number e) h.used_is ∙ by_number_behind e out held (λ u i. let r = h.low u i in omega arith));
    first_is = λ n. h.first_is e.number;
    begun = h.begun;
    low = h.low;
    high = λ u i. elim (in_by_number e u held i) [ inl q ↦ omega (arith, ap (λ (z : Numbered). z.number) q) | inr j ↦ h.high u j ];
    rising = rising_put e held h.rising (λ y i q. true≢false (sym (in_has e.number held y i q) ∙ fresh));
    came = λ u i. elim i [ inl q ↦ omega (arith, ap (λ (z : Numbered). z.time) q) | inr j ↦ h.came u j ];
    all = λ u i m. elim i [
      | inl q ↦ (u, by_number_in e u held (inl q), refl, omega arith)
      | inr j ↦ let r = h.all u j m in (r.0, by_number_in e r.0 held (inr r.1), r.2, r.3)
    ];
    count = rw (le-leb front e.number l, not_come) (omega (arith, h.count, length_by_number e held));
    ended = λ n a b. elim (h.ended n a b) [ inl c ↦ inl (or_right (e.number == n) (has_number past n) c) | inr g ↦ inr (up_more wait e.time n e past g) ];
  },
)
  where
    not_come : has_number past e.number ≡ false
    not_come = false_from_ne_true (has_number past e.number) (λ t.
        let r = has_in e.number past t in let s = h.all r.0 r.1 (omega (arith, r.2)) in
        true≢false (sym (in_has e.number held s.0 s.1 (s.2 ∙ r.2)) ∙ fresh))

    waits_here : is_given_up wait past e.time e.number ≡ false
    waits_here = false_from_ne_true (is_given_up wait past e.time e.number) (λ t. true≢false (sym (up_below wait e.time front e.number past l t) ∙ waits))

    in_time_is : in_time wait e past ≡ true
    in_time_is = and_from (nat_le (first_number e.number past) e.number) (not (has_number past e.number) && not (is_given_up wait past e.time e.number))
        (rw (h.first_is e.number) (let b = h.begun in le-leb first e.number (omega arith)))
        (and_from (not (has_number past e.number)) (not (is_given_up wait past e.time e.number)) (not_from_false (has_number past e.number) not_come) (not_from_false (is_given_up wait past e.time e.number) waits_here))

-- below the front, or held: it is not in time, and changes nothing
pub ignore : (wait : ℕ) (past : List Numbered) (first front : ℕ) (out held : List Numbered) (e : Numbered) → HoldsNumbers wait past e.time first front out held
    → (e.number < front) ⊎ (has_number held e.number ≡ true)
    → (in_time wait e past ≡ false) × HoldsNumbers wait (e ∷ past) e.time first front out held
ignore wait past first front out held e h why = (
  late,
  record {
    used_is = ap (λ t. cond t (by_number e (used wait past)) (used wait past)) late ∙ h.used_is;
    first_is = λ n. h.first_is e.number;
    begun = h.begun;
    low = h.low;
    high = h.high;
    rising = h.rising;
    came = λ u i. elim i [ inl q ↦ omega (arith, ap (λ (z : Numbered). z.time) q) | inr j ↦ h.came u j ];
    all = λ u i m. elim i [ inl q ↦ mine why u q m | inr j ↦ h.all u j m ];
    count = omega (arith, none why, h.count);
    ended = λ n a b. elim (h.ended n a b) [ inl c ↦ inl (or_right (e.number == n) (has_number past n) c) | inr g ↦ inr (up_more wait e.time n e past g) ];
  },
)
  where
    came_before : has_number held e.number ≡ true → has_number past e.number ≡ true
    came_before t = let r = has_in e.number held t in in_has e.number past r.0 (held_in_past wait past e.time first front out held h r.0 r.1) r.2

    mine : (e.number < front) ⊎ (has_number held e.number ≡ true) → (u : Numbered) → u ≡ e → front ≤ u.number → (v : Numbered) × In v held × (v.number ≡ u.number) × (v.time ≤ u.time)
    mine (inl l) u q m = absurd (omega (arith, ap (λ (z : Numbered). z.number) q))
    mine (inr t) u q m =
        let r = has_in e.number held t in
        let c = h.came r.0 (held_in_past wait past e.time first front out held h r.0 r.1) in
        (r.0, r.1, r.2 ∙ sym (ap (λ (z : Numbered). z.number) q), omega (arith, c, ap (λ (z : Numbered). z.time) q))

    none : (e.number < front) ⊎ (has_number held e.number ≡ true) → one (nat_le front e.number && not (has_number past e.number)) ≡ 0
    none (inl l) = rw (lt-leb front e.number l)
    none (inr t) = ap one (and_right (nat_le front e.number) (not (has_number past e.number)) (not_from_true (has_number past e.number) (came_before t)))

    late : in_time wait e past ≡ false
    late = false_from_ne_true (in_time wait e past) (λ t.
        let q = and_parts (nat_le (first_number e.number past) e.number) (not (has_number past e.number) && not (is_given_up wait past e.time e.number)) t in
        let r = and_parts (not (has_number past e.number)) (not (is_given_up wait past e.time e.number)) q.1 in
        let f = leb-true (first_number e.number past) e.number q.0 in
        let no = not-true (has_number past e.number) r.0 in
        elim why [
          | inl l ↦ elim (h.ended e.number (omega (arith, f, h.first_is e.number)) l) [
            | inl c ↦ true≢false (sym c ∙ no)
            | inr g ↦ true≢false (sym g ∙ not-true (is_given_up wait past e.time e.number) r.1)
          ]
          | inr b ↦ true≢false (sym (came_before b) ∙ no)
        ])

-- the very first
pub begin : (wait : ℕ) (e : Numbered) → HoldsNumbers wait (e ∷ []) e.time e.number e.number [] (e ∷ [])
begin wait e = record {
  used_is = rw (le-leb e.number e.number (omega arith));
  first_is = λ n. refl;
  begun = omega arith;
  low = λ u i. absurd i;
  high = λ u i. elim i [ inl q ↦ omega (arith, ap (λ (z : Numbered). z.number) q) | inr j ↦ absurd j ];
  rising = ((λ y i. absurd i), tt);
  came = λ u i. elim i [ inl q ↦ omega (arith, ap (λ (z : Numbered). z.time) q) | inr j ↦ absurd j ];
  all = λ u i l. elim i [ inl q ↦ (u, inl q, refl, omega arith) | inr j ↦ absurd j ];
  count = rw (le-leb e.number e.number (omega arith));
  ended = λ n a b. absurd (omega arith);
}

-- what the code tests: whether the front is given up shows in what is held
pub held_tells : (wait : ℕ) (past : List Numbered) (t first front : ℕ) (out held : List Numbered) → HoldsNumbers wait past t first front out held → has_number held front ≡ false
    → is_given_up wait past t front ≡ (list_any (λ x. nat_le (x.time + wait) t) held || nat_lt 64 (length held))
held_tells wait past t first front out held h gone =
    let not_come : has_number past front ≡ false = false_from_ne_true (has_number past front) (λ q.
    let r = has_in front past q in let s = h.all r.0 r.1 (omega (arith, r.2)) in true≢false (sym (in_has front held s.0 s.1 (s.2 ∙ r.2)) ∙ gone)) in
    let split = distinct_split front past in
    let n : distinct_from (suc front) past ≡ length held = (let e : one (has_number past front) ≡ 0 = rw not_come in omega (arith, h.count)) in
    rw n (ap (λ b. b || nat_lt 64 (length held)) (same (list_any (is_cause wait t front) past) (list_any (λ (x : Numbered). nat_le (x.time + wait) t) held) there back))
  where
    same : (a b : Bool) → (a ≡ true → b ≡ true) → (b ≡ true → a ≡ true) → a ≡ b
    same true b f g = sym (f refl)
    same false true f g = g refl
    same false false f g = refl

    there : list_any (is_cause wait t front) past ≡ true → list_any (λ (x : Numbered). nat_le (x.time + wait) t) held ≡ true
    there q = let r = any_in (is_cause wait t front) past q in let c = cause_at wait t front r.0 r.2 in let s = h.all r.0 r.1 (omega (arith, c.0)) in
        in_any (λ (x : Numbered). nat_le (x.time + wait) t) held s.0 s.1 (le-leb (s.0.time + wait) t (omega (arith, s.3, c.1)))

    back : list_any (λ (x : Numbered). nat_le (x.time + wait) t) held ≡ true → list_any (is_cause wait t front) past ≡ true
    back q = let r = any_in (λ (x : Numbered). nat_le (x.time + wait) t) held q in
        let hi = h.high r.0 r.1 in
        let ne = (λ (e : r.0.number ≡ front). true≢false (sym (in_has front held r.0 r.1 e) ∙ gone)) in
        in_any (is_cause wait t front) past r.0 (held_in_past wait past t first front out held h r.0 r.1) (cause_from wait t front r.0 (omega (arith, ne)) (leb-true (r.0.time + wait) t r.2))
