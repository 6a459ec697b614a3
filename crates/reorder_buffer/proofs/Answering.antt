-- What becomes of an arrival, from what is held.
use Rattle.std.proofs.Common.{◌≡◌, ℕ, zero, suc, ◌+◌, ◌-◌, ◌<◌, ◌≤◌, Bool, true, false, cond, not, ◌⊎◌, inl, inr, List, [], ◌∷◌, refl, ap, subst, sym, ◌∙◌, arith, None}
use Rattle.std.specs.Prelude.{◌==◌, ◌&&◌, ◌||◌, nat_lt, nat_le}
use Rattle.std.proofs.lemmas.Bool.{cases_Bool, cases_lt, true≢false, eqb-true, lt-ltb, le-ltb, le-leb, and_from, and_left, and_right, or_cases, or_left, or_right, not_from_false, false_from_ne_true}
use Rattle.stream_spec.specs.Lists.{In}
use Rattle.stream_spec.specs.Numbering.{Numbered, first_number, has_number, is_given_up, in_time, by_number, used}
use Rattle.reorder_buffer.specs.Holding.{HoldsNumbers}
use Rattle.stream_spec.proofs.Lists.{in_append, in_right}
use Rattle.stream_spec.proofs.Matched.{used_in}
use Rattle.stream_spec.proofs.Rising.{by_number_in, used_more}
use Rattle.stream_spec.proofs.GivingUp.{has_in, in_has, up_later, up_more}
use Rattle.reorder_buffer.specs.declared.answers.Taken.{Taken}
use Rattle.reorder_buffer.specs.declared.answers.Taken.TheVariants.{Before, Old, Repeat, Ready, Held}
use Rattle.reorder_buffer.specs.Stories.{Given, all_settled, is_settled, taken_as, is_used}
use Rattle.reorder_buffer.specs.States.{State, next_latest, PacketIsRefused}
use Rattle.reorder_buffer.specs.Tracks.{Holding}
use Rattle.reorder_buffer.proofs.Settling.{still_front}

-- ---- a number that came was used or is given up
first_any : (past : List Numbered) (n a b : ℕ) → has_number past n ≡ true → first_number a past ≡ first_number b past
first_any [] n a b h = absurd (true≢false (sym h))
first_any (e ∷ past) n a b h = refl

used_or_up : (wait t n : ℕ) (past : List Numbered) → ((u : Numbered) → In u past → u.time ≤ t) → ((k : ℕ) → has_number past n ≡ true → first_number k past ≤ n) → has_number past n ≡ true
    → ((u : Numbered) × In u (used wait past) × (u.number ≡ n)) ⊎ (is_given_up wait past t n ≡ true)
used_or_up wait t n [] c low h = absurd (true≢false (sym h))
used_or_up wait t n (e ∷ past) c low h =
    let before = (λ (q : has_number past n ≡ true). used_or_up wait t n past (λ u i. c u (inr i)) (λ k p. subst (λ (m : ℕ). m ≤ n) (first_any past n e.number k p) (low k h)) q) in
    elim (or_cases (e.number == n) (has_number past n) h) [ inl q ↦ here before (eqb-true e.number n q) (cases_Bool (has_number past n)) | inr q ↦ earlier (before q) ]
  where
    earlier : ((u : Numbered) × In u (used wait past) × (u.number ≡ n)) ⊎ (is_given_up wait past t n ≡ true) → ((u : Numbered) × In u (used wait (e ∷ past)) × (u.number ≡ n)) ⊎ (is_given_up wait (e ∷ past) t n ≡ true)
    earlier (inl r) = inl (r.0, used_more wait e past r.0 r.1, r.2)
    earlier (inr g) = inr (up_more wait t n e past g)

    here : (has_number past n ≡ true → ((u : Numbered) × In u (used wait past) × (u.number ≡ n)) ⊎ (is_given_up wait past t n ≡ true)) → e.number ≡ n → (has_number past n ≡ true) ⊎ (has_number past n ≡ false)
        → ((u : Numbered) × In u (used wait (e ∷ past)) × (u.number ≡ n)) ⊎ (is_given_up wait (e ∷ past) t n ≡ true)
    here before s (inl q) = earlier (before q)
    here before s (inr q) = elim (cases_Bool (is_given_up wait past e.time n)) [
      | inl g ↦ inr (up_more wait t n e past (up_later wait e.time t n past (c e (inl refl)) g))
      | inr g ↦
          let in_is : in_time wait e past ≡ true = and_from (nat_le (first_number e.number past) e.number) (not (has_number past e.number) && not (is_given_up wait past e.time e.number))
          (le-leb (first_number e.number past) e.number (let l = low 0 h in omega (arith, s)))
          (and_from (not (has_number past e.number)) (not (is_given_up wait past e.time e.number)) (not_from_false (has_number past e.number) (ap (has_number past) s ∙ q)) (not_from_false (is_given_up wait past e.time e.number) (ap (is_given_up wait past e.time) s ∙ g))) in
          inl (e, subst (λ (b : Bool). In e (cond b (by_number e (used wait past)) (used wait past))) (sym in_is) (by_number_in e e (used wait past) (inl refl)), s)
    ]

-- ---- what is settled shows in the front
module _ (wait : ℕ) (past : List Numbered) (t : ℕ) where
  all_done : (low k : ℕ) → ((n : ℕ) → low ≤ n → n < low + k → (has_number (used wait past) n || is_given_up wait past t n) ≡ true) → all_settled wait past t low k ≡ true
  all_done low zero f = refl
  all_done low (suc k) f = and_from (all_settled wait past t low k) (has_number (used wait past) (low + k) || is_given_up wait past t (low + k)) (all_done low k (λ n a b. f n a (omega arith))) (f (low + k) (omega arith) (omega arith))

  one_open : (low k n : ℕ) → low ≤ n → n < low + k → (has_number (used wait past) n || is_given_up wait past t n) ≡ false → all_settled wait past t low k ≡ false
  one_open low zero n a b f = absurd (omega arith)
  one_open low (suc k) n a b f = elim (cases_lt n (low + k)) [
    | inl l ↦ and_left (all_settled wait past t low k) (has_number (used wait past) (low + k) || is_given_up wait past t (low + k)) (one_open low k n a l f)
    | inr g ↦ let e : n ≡ low + k = omega arith in and_right (all_settled wait past t low k) (has_number (used wait past) (low + k) || is_given_up wait past t (low + k)) (subst (λ (m : ℕ). (has_number (used wait past) m || is_given_up wait past t m) ≡ false) e f)
  ]

  not_used : (n : ℕ) → has_number past n ≡ false → has_number (used wait past) n ≡ false
  not_used n gone = false_from_ne_true (has_number (used wait past) n) (λ q. let r = has_in n (used wait past) q in true≢false (sym (in_has n past r.0 (used_in wait past r.0 r.1) r.2) ∙ gone))

  pub settled_tells : (first front : ℕ) (out held : List Numbered) → HoldsNumbers wait past t first front out held → has_number past front ≡ false → is_given_up wait past t front ≡ false → (n : ℕ) → first ≤ n → is_settled wait past t n ≡ nat_lt n front
  settled_tells first front out held h gone waits n l = elim (cases_lt n front) [
    | inl lt ↦ rw (h.first_is n, lt-ltb n front lt) (all_done first (suc n - first) (λ k a b. done k a (omega arith)))
    | inr ge ↦ rw (h.first_is n, le-ltb n front ge) (one_open first (suc n - first) front h.begun (omega arith) (rw (not_used front gone, waits) refl))
  ]
    where
      done : (k : ℕ) → first ≤ k → k < front → (has_number (used wait past) k || is_given_up wait past t k) ≡ true
      done k a b = elim (h.ended k a b) [
        | inl c ↦ elim (used_or_up wait t k past h.came (λ m q. let f = h.first_is m in omega arith) c) [
          | inl r ↦ or_left (has_number (used wait past) k) (is_given_up wait past t k) (in_has k (used wait past) r.0 r.1 r.2)
          | inr g ↦ or_right (has_number (used wait past) k) (is_given_up wait past t k) g
        ]
        | inr g ↦ or_right (has_number (used wait past) k) (is_given_up wait past t k) g
      ]

-- ---- the answers, from their tests
is_before : (a : Bool) (x : Taken) → a ≡ true → cond a Before x ≡ Before
is_before a x p = rw p refl

is_old : (a b : Bool) (x : Taken) → a ≡ false → b ≡ true → cond a Before (cond b Old x) ≡ Old
is_old a b x p q = rw (p, q) refl

is_repeat : (a b c : Bool) (x : Taken) → a ≡ false → b ≡ false → c ≡ true → cond a Before (cond b Old (cond c Repeat x)) ≡ Repeat
is_repeat a b c x p q r = rw (p, q, r) refl

is_new : (a b c : Bool) (x : Taken) → a ≡ false → b ≡ false → c ≡ false → cond a Before (cond b Old (cond c Repeat x)) ≡ x
is_new a b c x p q r = rw (p, q, r) refl

module _ (s : State) (past : List Numbered) (given : List Given) (e : Numbered) where
  settled_at : e.time ≡ s.moment → next_latest s ≡ None → Holding s past given → s.first ≤ e.number → is_settled s.wait past e.time e.number ≡ nat_lt e.number s.front
  settled_at m still h l =
      let f = still_front s.wait past s.moment s.first s.front h.out s.latest s.held h.holds still in
      ap (λ t. is_settled s.wait past t e.number) m ∙ settled_tells s.wait past s.moment s.first s.front h.out s.held h.holds f.0 f.1 e.number l

  not_below : Holding s past given → s.first ≤ e.number → nat_lt e.number (first_number e.number past) ≡ false
  not_below h l = rw (h.holds.first_is e.number) (le-ltb e.number s.first l)

  pub refused_why : Holding s past given → (taken : Taken) → PacketIsRefused s e.number taken → ((e.number < s.front) ⊎ (has_number s.held e.number ≡ true)) × (is_used taken ≡ false)
  refused_why h Before r = (inl (let b = h.holds.begun in omega arith), refl)
  refused_why h Old r = (inl r.1, refl)
  refused_why h Repeat r = (inr r.2, refl)
  refused_why h Ready r = absurd r
  refused_why h Held r = absurd r

  pub refused_answer : e.time ≡ s.moment → next_latest s ≡ None → Holding s past given → (taken : Taken) → PacketIsRefused s e.number taken → taken_as s.wait past e ≡ taken
  refused_answer m still h Before r = is_before (nat_lt e.number (first_number e.number past)) _ (rw (h.holds.first_is e.number) (lt-ltb e.number s.first r))
  refused_answer m still h Old r = is_old (nat_lt e.number (first_number e.number past)) (is_settled s.wait past e.time e.number) _ (not_below h r.0) (settled_at m still h r.0 ∙ lt-ltb e.number s.front r.1)
  refused_answer m still h Repeat r = is_repeat (nat_lt e.number (first_number e.number past)) (is_settled s.wait past e.time e.number) (has_number (used s.wait past) e.number) _ (not_below h r.0) (settled_at m still h r.0 ∙ le-ltb e.number s.front r.1)
      (let u = has_in e.number s.held r.2 in in_has e.number (used s.wait past) u.0 (subst (λ (us : List Numbered). In u.0 us) (sym h.holds.used_is) (in_right u.0 h.out s.held u.1)) u.2)
  refused_answer m still h Ready r = absurd r
  refused_answer m still h Held r = absurd r

  pub held_answer : e.time ≡ s.moment → next_latest s ≡ None → Holding s past given → s.first ≤ e.number → s.front ≤ e.number → has_number s.held e.number ≡ false
      → taken_as s.wait past e ≡ cond (is_settled s.wait (e ∷ past) e.time e.number) Ready Held
  held_answer m still h a b f = is_new (nat_lt e.number (first_number e.number past)) (is_settled s.wait past e.time e.number) (has_number (used s.wait past) e.number) (cond (is_settled s.wait (e ∷ past) e.time e.number) Ready Held)
      (not_below h a) (settled_at m still h a ∙ le-ltb e.number s.front b)
      (false_from_ne_true (has_number (used s.wait past) e.number) (λ q.
      let u = has_in e.number (used s.wait past) q in
      elim (in_append u.0 h.out s.held (subst (λ (us : List Numbered). In u.0 us) h.holds.used_is u.1)) [
        | inl i ↦ let l = h.holds.low u.0 i in omega (arith, u.2)
        | inr i ↦ true≢false (sym (in_has e.number s.held u.0 i u.2) ∙ f)
      ]))

-- the first arrival
pub start_answer : (wait : ℕ) (e : Numbered) → taken_as wait [] e ≡ cond (is_settled wait (e ∷ []) e.time e.number) Ready Held
start_answer wait e =
    let same : suc e.number - e.number ≡ 1 = omega arith in
    is_new (nat_lt e.number e.number) (is_settled wait [] e.time e.number) false (cond (is_settled wait (e ∷ []) e.time e.number) Ready Held) (le-ltb e.number e.number (omega arith)) (rw same refl) refl
