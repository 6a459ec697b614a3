-- When what is held ends, and what is settled is exactly what is ready by now.
use Rattle.std.proofs.Common.{◌≡◌, ℕ, zero, suc, ◌+◌, ◌-◌, ◌<◌, ◌≤◌, false, inl, inr, List, [], ◌∷◌, ◌++◌, refl, ap, subst, sym, ◌∙◌, arith}
use Rattle.std.specs.Prelude.{◌&&◌, ◌==◌, nat_lt, max, map}
use Rattle.std.proofs.lemmas.Bool.{cases_lt, true≢false, lt-ltb, or_right}
use Rattle.std.proofs.lemmas.Bool.Decides.{nat_tests}
use Rattle.stream_spec.specs.Numbering.{Numbered, Falling, first_number, has_number, in_time, used, distinct_from, is_given_up}
use Rattle.stream_spec.specs.Lists.{In}
use Rattle.stream_spec.specs.Ready.{when, moments, least, end_of, latest_end, ready_of}
use Rattle.stream_spec.proofs.LatestEnds.{last_same, last_has}
use Rattle.stream_spec.proofs.Lists.{in_left, in_right, in_append, when_in}
use Rattle.stream_spec.proofs.Matched.{used_in}
use Rattle.stream_spec.proofs.GivingUp.{in_has}
use Rattle.stream_spec.proofs.Rising.{used_above}
use Rattle.stream_spec.proofs.Ready.{least_is, least_in, least_below, new_moment, moment_before, moment_tells, end_stays, end_used, moments_same, Kind, Came, Above, Crowd, kind_of, above_moment}
use Rattle.reorder_buffer.specs.Holding.{HoldsNumbers, Timed}
use Rattle.reorder_buffer.proofs.Keeping.{held_in_past}

-- ---- the latest end
larger_ge : (a b : ℕ) → (a ≤ max a b) × (b ≤ max a b)
larger_ge a b = grind (arith, nat_tests)

larger_le : (a b c : ℕ) → a ≤ c → b ≤ c → max a b ≤ c
larger_le a b c p q = grind (arith, nat_tests)

larger_twice : (a b : ℕ) → max (max a b) b ≡ max a b
larger_twice a b = grind (arith, nat_tests)

-- k more numbers with one end
last_run : (wait : ℕ) (past : List Numbered) (lo k m : ℕ) (j : ℕ) → ((n : ℕ) → lo + k ≤ n → n < lo + k + suc j → end_of wait past n ≡ m) → latest_end wait past lo (suc j + k) ≡ max (latest_end wait past lo k) m
last_run wait past lo k m zero f = let e : 1 + k ≡ suc k = omega arith in rw (e, f (lo + k) (omega arith) (omega arith)) refl
last_run wait past lo k m (suc j) f =
    let r = last_run wait past lo k m j (λ n a b. f n a (omega arith)) in
    let e : suc (suc j) + k ≡ suc (suc j + k) = omega arith in
    rw (e, f (lo + (suc j + k)) (omega arith) (omega arith), r) (larger_twice (latest_end wait past lo k) m)

last_le : (wait : ℕ) (past : List Numbered) (lo k t : ℕ) → ((n : ℕ) → lo ≤ n → n < lo + k → end_of wait past n ≤ t) → latest_end wait past lo k ≤ t
last_le wait past lo zero t f = omega arith
last_le wait past lo (suc k) t f = larger_le (latest_end wait past lo k) (end_of wait past (lo + k)) t (last_le wait past lo k t (λ n a b. f n a (omega arith))) (f (lo + k) (omega arith) (omega arith))

-- ---- steps of Timed
pub timed_more : (wait : ℕ) (e : Numbered) (past : List Numbered) (t first front latest : ℕ) → t ≤ e.time → first ≤ front → Timed wait past t first front latest → Timed wait (e ∷ past) e.time first front latest
timed_more wait e past t first front latest l b h = record {
  latest_is = h.latest_is ∙ last_same wait past (e ∷ past) first (front - first) (λ n p q. let r = h.by_now n p (omega arith) in sym (end_stays wait e past n r.0 r.1 (omega (arith, r.2))));
  by_now = λ n p q. let r = h.by_now n p q in (r.0, moment_before wait e past n r.0 r.1, omega (arith, r.2));
}

pub timed_later : (wait : ℕ) (past : List Numbered) (t t' first front latest : ℕ) → t ≤ t' → Timed wait past t first front latest → Timed wait past t' first front latest
timed_later wait past t t' first front latest l h = record { latest_is = h.latest_is; by_now = λ n p q. let r = h.by_now n p q in (r.0, r.1, omega (arith, r.2)) }

pub timed_come : (wait : ℕ) (past : List Numbered) (t first latest : ℕ) (x : Numbered) → Falling past → In x (used wait past) → x.time ≤ t → first ≤ x.number
    → Timed wait past t first x.number latest → Timed wait past t first (suc x.number) (max latest x.time)
timed_come wait past t first latest x f i l b h =
    let r = end_used wait past x f i in
    let k : suc x.number - first ≡ suc (x.number - first) = omega arith in
    let at : first + (x.number - first) ≡ x.number = omega arith in
    record {
      latest_is = rw (k, at, r.1, h.latest_is) refl;
      by_now = λ n p q. elim (cases_lt n x.number) [ inl lt ↦ h.by_now n p lt | inr ge ↦ let e : n ≡ x.number = omega arith in rw e (x.time, r.0, l) ];
    }

pub timed_jump : (wait : ℕ) (past : List Numbered) (t first front latest to m : ℕ) → first ≤ front → front < to → ((u : Numbered) → In u past → front ≤ u.number → to ≤ u.number)
    → In m (moments wait past front) → m ≤ t → Timed wait past t first front latest → Timed wait past t first to (max latest (end_of wait past front))
timed_jump wait past t first front latest to m b l above i q h =
    let run = last_run wait past first (front - first) (end_of wait past front) (to - front - 1)
    (λ n p s. ap least (sym (moments_same wait past front n (omega arith) (λ u j g. let a = above u j g in omega arith)))) in
    let k : suc (to - front - 1) + (front - first) ≡ to - first = omega arith in
    record {
      latest_is = rw h.latest_is (sym run ∙ ap (latest_end wait past first) k);
      by_now = λ n p s. elim (cases_lt n front) [
        | inl lt ↦ h.by_now n p lt
        | inr ge ↦ (m, subst (λ (ms : List ℕ). In m ms) (moments_same wait past front n ge (λ u j g. let a = above u j g in omega arith)) i, q)
      ];
    }

-- ---- what is given is exactly what is ready by now
pub given_ready : (wait : ℕ) (past : List Numbered) (t first front latest : ℕ) (x : Numbered) → ((n : ℕ) → first_number n past ≡ first) → first ≤ x.number → x.number < front → Falling past → In x (used wait past)
    → Timed wait past t first front latest → ready_of wait past x ≤ t
given_ready wait past t first front latest x fi b l f i h =
    let r = end_used wait past x f i in
    let own = h.by_now x.number b l in
    let own_le = least_below (moments wait past x.number) own.0 own.1 in
    rw (fi 0) (larger_le x.time (latest_end wait past first (suc x.number - first)) t (omega (arith, r.1, own.2, own_le))
    (last_le wait past first (suc x.number - first) t (λ n p q. let s = h.by_now n p (omega arith) in let u = least_below (moments wait past n) s.0 s.1 in omega (arith, s.2))))

pub held_not_ready : (wait : ℕ) (past : List Numbered) (t first front : ℕ) (x : Numbered) → ((n : ℕ) → first_number n past ≡ first) → first ≤ front → front < x.number → In x past
    → has_number past front ≡ false → is_given_up wait past t front ≡ false → t < ready_of wait past x
held_not_ready wait past t first front x fi b l i gone waits =
    let some = above_moment wait past front x i l in
    let inn = least_in (moments wait past front) (x.time + wait) some in
    let ge = last_has wait past first (suc x.number - first) front b (omega arith) in
    let big = larger_ge x.time (latest_end wait past first (suc x.number - first)) in
    rw (fi 0) (elim (cases_lt t (end_of wait past front)) [
      | inl lt ↦ omega (arith, big.1)
      | inr le ↦ absurd (elim (moment_tells wait t front past (end_of wait past front) inn le) [ inl h ↦ true≢false (sym h ∙ gone) | inr g ↦ true≢false (sym g ∙ waits) ])
    ])

-- the moments at which what is held gives the front up
abbrev pub waits_of : ℕ → List Numbered → List ℕ
waits_of wait held = map (λ x. x.time + wait) held

pub in_waits : (wait : ℕ) (held : List Numbered) (m : ℕ) → In m (waits_of wait held) → (x : Numbered) × In x held × (m ≡ x.time + wait)
in_waits wait [] m i = absurd i
in_waits wait (x ∷ held) m (inl e) = (x, inl refl, e)
in_waits wait (x ∷ held) m (inr i) = let r = in_waits wait held m i in (r.0, inr r.1, r.2)

waits_in : (wait : ℕ) (held : List Numbered) (x : Numbered) → In x held → In (x.time + wait) (waits_of wait held)
waits_in wait [] x i = absurd i
waits_in wait (y ∷ held) x (inl e) = inl (ap (λ (z : Numbered). z.time + wait) e)
waits_in wait (y ∷ held) x (inr i) = inr (waits_in wait held x i)

-- not crowded: the least of the held times, and `wait`
pub end_by_wait : (wait : ℕ) (past : List Numbered) (t first front : ℕ) (out : List Numbered) (x : Numbered) (held : List Numbered) → HoldsNumbers wait past t first front out (x ∷ held) → has_number past front ≡ false
    → distinct_from (suc front) past ≤ 64 → end_of wait past front ≡ least (waits_of wait (x ∷ held))
end_by_wait wait past t first front out x held h gone few =
    let inn = least_in (waits_of wait (x ∷ held)) (x.time + wait) (inl refl) in
    let v = in_waits wait (x ∷ held) (least (waits_of wait (x ∷ held))) inn in
    let hi = h.high v.0 v.1 in
    let past_v = held_in_past wait past t first front out (x ∷ held) h v.0 v.1 in
    let ne = (λ (e : v.0.number ≡ front). true≢false (sym (in_has front past v.0 past_v e) ∙ gone)) in
    least_is (moments wait past front) (least (waits_of wait (x ∷ held)))
    (subst (λ (m : ℕ). In m (moments wait past front)) (sym v.2) (above_moment wait past front v.0 past_v (omega (arith, ne))))
    (λ y j. below y (kind_of wait past front y j))
  where
    below : (y : ℕ) → Kind wait past front y → least (waits_of wait (x ∷ held)) ≤ y
    below y (Came c) = absurd (true≢false (sym c ∙ gone))
    below y (Crowd c) = absurd (omega arith)
    below y (Above u i l q) =
        let r = h.all u i (omega arith) in
        let le = least_below (waits_of wait (x ∷ held)) (r.0.time + wait) (waits_in wait (x ∷ held) r.0 r.1) in
        omega (arith, r.3)

-- crowded by the last arrival e: its time
pub end_by_crowd : (wait : ℕ) (e : Numbered) (past : List Numbered) (front : ℕ) → has_number (e ∷ past) front ≡ false → is_given_up wait past e.time front ≡ false → 64 < distinct_from (suc front) (e ∷ past)
    → end_of wait (e ∷ past) front ≡ e.time
end_by_crowd wait e past front gone waits crowd =
    least_is (moments wait (e ∷ past) front) e.time
    (in_right e.time (when (in_time wait e past && e.number == front) e.time) (when (nat_lt front e.number) (e.time + wait) ++ (when (nat_lt 64 (distinct_from (suc front) (e ∷ past))) e.time ++ moments wait past front))
    (in_right e.time (when (nat_lt front e.number) (e.time + wait)) (when (nat_lt 64 (distinct_from (suc front) (e ∷ past))) e.time ++ moments wait past front)
    (in_left e.time (when (nat_lt 64 (distinct_from (suc front) (e ∷ past))) e.time) (moments wait past front) (when_in (nat_lt 64 (distinct_from (suc front) (e ∷ past))) e.time e.time (lt-ltb 64 (distinct_from (suc front) (e ∷ past)) crowd) refl))))
    (λ y j. elim (new_moment wait e past front y j) [
      | inl a ↦ omega (arith, a.0)
      | inr (inl a) ↦ omega (arith, a.0)
      | inr (inr (inl a)) ↦ omega (arith, a.0)
      | inr (inr (inr a)) ↦ elim (cases_lt y e.time) [
        | inl lt ↦ absurd (elim (moment_tells wait e.time front past y a (omega arith)) [
          | inl c ↦ true≢false (sym (or_right (e.number == front) (has_number past front) c) ∙ gone)
          | inr g ↦ true≢false (sym g ∙ waits)
        ])
        | inr ge ↦ ge
      ]
    ])

-- ---- what is settled is exactly what is ready by now
pub settled_law : (wait : ℕ) (past : List Numbered) (t first front latest : ℕ) (out held : List Numbered) → Falling past → HoldsNumbers wait past t first front out held → Timed wait past t first front latest
    → has_number past front ≡ false → is_given_up wait past t front ≡ false → (u : Numbered) → In u (used wait past) → (In u out → ready_of wait past u ≤ t) × (ready_of wait past u ≤ t → In u out)
settled_law wait past t first front latest out held f h m gone waits u i = (given, back)
  where
    above : first ≤ u.number
    above = subst (λ (n : ℕ). n ≤ u.number) (h.first_is 0) (used_above wait past u 0 i)

    given : In u out → ready_of wait past u ≤ t
    given j = given_ready wait past t first front latest u h.first_is above (h.low u j) f i m

    back : ready_of wait past u ≤ t → In u out
    back r = elim (in_append u out held (subst (λ (us : List Numbered). In u us) h.used_is i)) [
      | inl j ↦ j
      | inr j ↦
          let p = used_in wait past u i in
          let hi = h.high u j in
          let ne = (λ (e : u.number ≡ front). true≢false (sym (in_has front past u p e) ∙ gone)) in
          let late = held_not_ready wait past t first front u h.first_is h.begun (omega (arith, ne)) p gone waits in
          absurd (omega (arith, late))
    ]
