-- What it takes to settle the first held packet.
use Rattle.std.proofs.Common.{◌≡◌, ℕ, suc, ◌+◌, ◌<◌, ◌≤◌, Bool, true, false, cond, inl, inr, List, [], ◌∷◌, ◌++◌, length, refl, ap, subst, sym, ◌∙◌, arith, unwrap_or, Option, None, Some}
use Rattle.std.specs.Prelude.{◌||◌, ◌==◌, nat_lt, nat_le, max}
use Rattle.std.specs.List.{list_any}
use Rattle.std.proofs.lemmas.Bool.{true≢false, eqb-true, eqb-false, ltb-true, ltb-false, leb-true, le-leb, or_left, or_right, or_cases, false_from_ne_true}
use Rattle.std.proofs.lemmas.Bool.Decides.{nat_tests}
use Rattle.stream_spec.specs.Numbering.{Numbered, has_number, is_given_up, used, Falling}
use Rattle.stream_spec.specs.Lists.{In}
use Rattle.stream_spec.specs.Ready.{least, end_of, ready_of}
use Rattle.stream_spec.proofs.Lists.{in_right, any_in, in_any}
use Rattle.stream_spec.proofs.Ready.{up_moment, least_in}
use Rattle.reorder_buffer.specs.States.{oldest_from, when_by, given_up_at, latest_after, latest_from}
use Rattle.reorder_buffer.proofs.Oldest.{oldest_member, least_is_oldest}
use Rattle.reorder_buffer.specs.Holding.{HoldsNumbers, Timed}
use Rattle.stream_spec.proofs.GivingUp.{has_in, in_has, distinct_split, one}
use Rattle.reorder_buffer.proofs.Keeping.{come, jump, held_in_past, held_tells}
use Rattle.reorder_buffer.proofs.Timing.{timed_come, timed_jump, end_by_wait, waits_of, in_waits as waited}

pub some_is : (m n : ℕ) → Some m ≡ Some n → m ≡ n
some_is m n e = ap (λ o. unwrap_or o 0) e

pub none_some : (n : ℕ) → None ≡ Some n → ⊥
none_some n e = cc

max_own : (m n : ℕ) → m ≤ n → max m n ≡ n
max_own m n l = grind (arith, nat_tests)

max_right : (m n : ℕ) → n ≤ max m n
max_right m n = grind (arith, nat_tests)

module _ (wait : ℕ) (past : List Numbered) (t first front : ℕ) (out : List Numbered) where
  -- what is not held at the front has not come
  pub not_come : (held : List Numbered) → HoldsNumbers wait past t first front out held → has_number held front ≡ false → has_number past front ≡ false
  not_come held h gone = false_from_ne_true (has_number past front) (λ q.
      let r = has_in front past q in let s = h.all r.0 r.1 (omega (arith, r.2)) in true≢false (sym (in_has front held s.0 s.1 (s.2 ∙ r.2)) ∙ gone))

  -- the first held packet lies above the front
  pub front_gone : (x : Numbered) (xs : List Numbered) → HoldsNumbers wait past t first front out (x ∷ xs) → (x.number == front) ≡ false → has_number (x ∷ xs) front ≡ false
  front_gone x xs h ne = false_from_ne_true (has_number (x ∷ xs) front) (λ q.
      let r = has_in front (x ∷ xs) q in elim r.1 [
        | inl e ↦ eqb-false x.number front ne (sym (ap (λ (z : Numbered). z.number) e) ∙ r.2)
        | inr j ↦ let u = h.rising.0 r.0 j in let v = h.high x (inl refl) in omega (arith, r.2)
      ])

  first_came : (x : Numbered) (xs : List Numbered) → HoldsNumbers wait past t first front out (x ∷ xs) → x.time ≤ t
  first_came x xs h = h.came x (held_in_past wait past t first front out (x ∷ xs) h x (inl refl))

  -- the code's moment is the end of the front, which is given up
  gives_up : (x : Numbered) (xs : List Numbered) (end : ℕ) → HoldsNumbers wait past t first front out (x ∷ xs) → (64 < length (x ∷ xs) → has_number past front ≡ false → end_of wait past front ≡ t)
      → (x.number == front) ≡ false → given_up_at wait t (x ∷ xs) ≡ Some end → (is_given_up wait past t front ≡ true) × (end_of wait past front ≡ end)
  gives_up x xs end h crowd ne g = go (nat_lt 64 (length (x ∷ xs))) refl g
    where
      gone : has_number (x ∷ xs) front ≡ false
      gone = front_gone x xs h ne

      past_gone : has_number past front ≡ false
      past_gone = not_come (x ∷ xs) h gone

      tells : is_given_up wait past t front ≡ (list_any (λ (v : Numbered). nat_le (v.time + wait) t) (x ∷ xs) || nat_lt 64 (length (x ∷ xs)))
      tells = held_tells wait past t first front out (x ∷ xs) h gone

      go : (b : Bool) → nat_lt 64 (length (x ∷ xs)) ≡ b → cond b (Some t) (when_by t (oldest_from t (x ∷ xs) + wait)) ≡ Some end → (is_given_up wait past t front ≡ true) × (end_of wait past front ≡ end)
      go true e q = (tells ∙ or_right (list_any (λ (v : Numbered). nat_le (v.time + wait) t) (x ∷ xs)) (nat_lt 64 (length (x ∷ xs))) e, crowd (ltb-true 64 (length (x ∷ xs)) e) past_gone ∙ some_is t end q)
      go false e q = by (nat_le (oldest_from t (x ∷ xs) + wait) t) refl q
        where
          least_at : least (waits_of wait (x ∷ xs)) ≡ oldest_from t (x ∷ xs) + wait
          least_at = least_is_oldest wait t x xs (first_came x xs h)

          few : length (x ∷ xs) ≤ 64
          few = ltb-false 64 (length (x ∷ xs)) e

          by : (b : Bool) → nat_le (oldest_from t (x ∷ xs) + wait) t ≡ b → cond b (Some (oldest_from t (x ∷ xs) + wait)) None ≡ Some end → (is_given_up wait past t front ≡ true) × (end_of wait past front ≡ end)
          by false l q = absurd (none_some end q)
          by true l q =
              let v = waited wait (x ∷ xs) (least (waits_of wait (x ∷ xs))) (least_in (waits_of wait (x ∷ xs)) (x.time + wait) (inl refl)) in
              let le = leb-true (oldest_from t (x ∷ xs) + wait) t l in
              let split = distinct_split front past in
              let none : one (has_number past front) ≡ 0 = ap one past_gone in
              let count = h.count in (
                tells ∙ or_left (list_any (λ (v : Numbered). nat_le (v.time + wait) t) (x ∷ xs)) (nat_lt 64 (length (x ∷ xs))) (in_any (λ (v : Numbered). nat_le (v.time + wait) t) (x ∷ xs) v.0 v.1 (le-leb (v.0.time + wait) t (omega (arith, v.2, least_at)))),
                end_by_wait wait past t first front out x xs h past_gone (omega (arith, few)) ∙ (least_at ∙ some_is (oldest_from t (x ∷ xs) + wait) end q),
              )

  -- the first held packet is settled, and is ready at the latest end
  pub settle_step : (latest to : ℕ) (x : Numbered) (xs : List Numbered) → Falling past → HoldsNumbers wait past t first front out (x ∷ xs) → Timed wait past t first front latest
      → (64 < length (x ∷ xs) → has_number past front ≡ false → end_of wait past front ≡ t) → latest_from wait t front latest (x ∷ xs) ≡ Some to
      → HoldsNumbers wait past t first (suc x.number) (out ++ x ∷ []) xs × Timed wait past t first (suc x.number) to × (ready_of wait past x ≡ to)
  settle_step latest to x xs falling h timed crowd can = go (x.number == front) refl can
    where
      in_used : In x (used wait past)
      in_used = subst (λ (us : List Numbered). In x us) (sym h.used_is) (in_right x out (x ∷ xs) (inl refl))

      hi : front ≤ x.number
      hi = h.high x (inl refl)

      ready : Timed wait past t first (suc x.number) to → x.time ≤ to → ready_of wait past x ≡ to
      ready m l = rw (h.first_is 0, ← m.latest_is) (max_own x.time to l)

      go : (b : Bool) → (x.number == front) ≡ b → cond b (Some (max latest x.time)) (latest_after latest x.time (given_up_at wait t (x ∷ xs))) ≡ Some to
          → HoldsNumbers wait past t first (suc x.number) (out ++ x ∷ []) xs × Timed wait past t first (suc x.number) to × (ready_of wait past x ≡ to)
      go true e q =
          let same = eqb-true x.number front e in
          let is = some_is (max latest x.time) to q in
          let b : first ≤ x.number = omega (arith, h.begun, hi) in
          let m : Timed wait past t first (suc x.number) to = subst (λ (n : ℕ). Timed wait past t first (suc x.number) n) is
          (timed_come wait past t first latest x falling in_used (first_came x xs h) b (subst (λ (n : ℕ). Timed wait past t first n latest) (sym same) timed)) in
          let r = max_right latest x.time in (
            come wait past t first out x xs (subst (λ (n : ℕ). HoldsNumbers wait past t first n out (x ∷ xs)) (sym same) h),
            m,
            ready m (omega (arith, is)),
          )
      go false e q = jumps (given_up_at wait t (x ∷ xs)) refl q
        where
          ne : x.number ≡ front → ⊥
          ne = eqb-false x.number front e

          above : (u : Numbered) → In u past → front ≤ u.number → x.number ≤ u.number
          above u i l = let r = h.all u i l in elim r.1 [
            | inl s ↦ omega (arith, r.2, ap (λ (z : Numbered). z.number) s)
            | inr j ↦ let v = h.rising.0 r.0 j in omega (arith, r.2)
          ]

          jumps : (o : Option ℕ) → given_up_at wait t (x ∷ xs) ≡ o → latest_after latest x.time o ≡ Some to
              → HoldsNumbers wait past t first (suc x.number) (out ++ x ∷ []) xs × Timed wait past t first (suc x.number) to × (ready_of wait past x ≡ to)
          jumps None g q = absurd (none_some to q)
          jumps (Some end) g q =
              let up = gives_up x xs end h crowd e g in
              let moment = up_moment wait t front past h.came up.0 in
              let is = some_is (max (max latest end) x.time) to q in
              let b : first ≤ x.number = omega (arith, h.begun, hi) in
              let jumped : Timed wait past t first x.number (max latest end) = subst (λ (n : ℕ). Timed wait past t first x.number (max latest n)) up.1
              (timed_jump wait past t first front latest x.number moment.0 h.begun (omega (arith, hi, ne)) above moment.1 moment.2 timed) in
              let m : Timed wait past t first (suc x.number) to = subst (λ (n : ℕ). Timed wait past t first (suc x.number) n) is
              (timed_come wait past t first (max latest end) x falling in_used (first_came x xs h) b jumped) in
              let r = max_right (max latest end) x.time in (
                come wait past t first out x xs (jump wait past t first front out x xs up.0 h),
                m,
                ready m (omega (arith, is)),
              )

  -- while nothing can be settled, few are held
  pub still_few : (latest : ℕ) (held : List Numbered) → latest_from wait t front latest held ≡ None → length held ≤ 64
  still_few latest [] e = omega arith
  still_few latest (x ∷ xs) e = go (x.number == front) (nat_lt 64 (length (x ∷ xs))) refl e
    where
      go : (b c : Bool) → nat_lt 64 (length (x ∷ xs)) ≡ c → cond b (Some (max latest x.time)) (latest_after latest x.time (cond c (Some t) (when_by t (oldest_from t (x ∷ xs) + wait)))) ≡ None → length (x ∷ xs) ≤ 64
      go true c f q = absurd (none_some (max latest x.time) (sym q))
      go false true f q = absurd (none_some (max (max latest t) x.time) (sym q))
      go false false f q = ltb-false 64 (length (x ∷ xs)) f

  -- and the front has neither come nor is it given up
  pub still_front : (latest : ℕ) (held : List Numbered) → HoldsNumbers wait past t first front out held → latest_from wait t front latest held ≡ None → (has_number past front ≡ false) × (is_given_up wait past t front ≡ false)
  still_front latest [] h e = (not_come [] h refl, held_tells wait past t first front out [] h refl)
  still_front latest (x ∷ xs) h e = go (x.number == front) refl e
    where
      go : (b : Bool) → (x.number == front) ≡ b → cond b (Some (max latest x.time)) (latest_after latest x.time (given_up_at wait t (x ∷ xs))) ≡ None → (has_number past front ≡ false) × (is_given_up wait past t front ≡ false)
      go true ne q = absurd (none_some (max latest x.time) (sym q))
      go false ne q = (not_come (x ∷ xs) h gone, held_tells wait past t first front out (x ∷ xs) h gone ∙ both (nat_lt 64 (length (x ∷ xs))) refl q)
        where
          gone : has_number (x ∷ xs) front ≡ false
          gone = front_gone x xs h ne

          both : (c : Bool) → nat_lt 64 (length (x ∷ xs)) ≡ c → latest_after latest x.time (cond c (Some t) (when_by t (oldest_from t (x ∷ xs) + wait))) ≡ None
              → (list_any (λ (v : Numbered). nat_le (v.time + wait) t) (x ∷ xs) || c) ≡ false
          both true f q = absurd (none_some (max (max latest t) x.time) (sym q))
          both false f q = by (nat_le (oldest_from t (x ∷ xs) + wait) t) refl q
            where
              by : (d : Bool) → nat_le (oldest_from t (x ∷ xs) + wait) t ≡ d → latest_after latest x.time (cond d (Some (oldest_from t (x ∷ xs) + wait)) None) ≡ None
                  → (list_any (λ (v : Numbered). nat_le (v.time + wait) t) (x ∷ xs) || false) ≡ false
              by true l q = absurd (none_some (max (max latest (oldest_from t (x ∷ xs) + wait)) x.time) (sym q))
              by false l q = false_from_ne_true (list_any (λ (v : Numbered). nat_le (v.time + wait) t) (x ∷ xs) || false) (λ w.
                  elim (or_cases (list_any (λ (v : Numbered). nat_le (v.time + wait) t) (x ∷ xs)) false w) [
                    | inl a ↦
                        let r = any_in (λ (v : Numbered). nat_le (v.time + wait) t) (x ∷ xs) a in
                        let o = oldest_member t (x ∷ xs) r.0 r.1 in
                        let v = leb-true (r.0.time + wait) t r.2 in
                        true≢false (sym (le-leb (oldest_from t (x ∷ xs) + wait) t (omega arith)) ∙ l)
                    | inr a ↦ true≢false (sym a)
                  ])
