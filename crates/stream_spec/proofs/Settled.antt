-- What is ready by a moment stays so, whatever comes at that moment or later.
use Rattle.std.proofs.Common.{◌≡◌, ℕ, suc, ◌+◌, ◌-◌, ◌<◌, ◌≤◌, Bool, true, false, cond, not, inl, inr, List, [], ◌∷◌, ◌++◌, refl, ap, subst, sym, ◌∙◌, arith, append_assoc}
use Rattle.std.specs.Prelude.{◌&&◌, nat_le, max, map}
use Rattle.std.proofs.lemmas.Bool.{cases_lt, true≢false, leb-true, le-ltb, and_parts, not-true, false_from_ne_true}
use Rattle.wire_spec.specs.Packets.{Arrival}
use Rattle.stream_spec.specs.Lists.{In}
use Rattle.stream_spec.specs.Numbering.{Numbered, Falling, RisingNumbers, numbered, number_it, first_number, has_number, in_time, is_given_up, used, by_number}
use Rattle.stream_spec.specs.Ready.{moments, end_of, latest_end, ready_of}
use Rattle.stream_spec.specs.ChunksBy.{stamped}
use Rattle.stream_spec.proofs.Lists.{in_append, in_right}
use Rattle.stream_spec.proofs.Matched.{used_in}
use Rattle.stream_spec.specs.Fronts.{AreFrom}
use Rattle.stream_spec.proofs.Rising.{used_rises, used_above, rising_above, rising_below}
use Rattle.stream_spec.proofs.LatestEnds.{last_same, last_up, last_has}
use Rattle.stream_spec.proofs.Ready.{least_in, moment_before, moment_tells, end_stays, end_used, above_moment}

-- Each number from the first below the front has ended by t, and `out` are the used packets of these numbers.
pub record Settled (wait t : ℕ) (past : List Numbered) (first front : ℕ) (out : List Numbered) : Type 0 where
  pub held : List Numbered
  pub used_is : used wait past ≡ out ++ held
  pub first_is : (n : ℕ) → first_number n past ≡ first
  pub low : (u : Numbered) → In u out → u.number < front
  pub ended : (n : ℕ) → first ≤ n → n < front → (m : ℕ) × In m (moments wait past n) × (m ≤ t)

-- ---- one more arrival
pub by_number_behind : (e : Numbered) (out held : List Numbered) → ((u : Numbered) → In u out → u.number ≤ e.number) → by_number e (out ++ held) ≡ out ++ by_number e held
by_number_behind e [] held f = refl
by_number_behind e (x ∷ out) held f = let l = f x (inl refl) in rw (le-ltb e.number x.number l) (ap (λ us. x ∷ us) (by_number_behind e out held (λ u i. f u (inr i))))

module _ (wait t : ℕ) (e : Numbered) (past : List Numbered) (first front : ℕ) (out : List Numbered) (l : t ≤ e.time) (s : Settled wait t past first front out) where
  -- a number below the front is not in time any more
  late : e.number < front → in_time wait e past ≡ false
  late b = false_from_ne_true (in_time wait e past) (λ h.
      let q = and_parts (nat_le (first_number e.number past) e.number) (not (has_number past e.number) && not (is_given_up wait past e.time e.number)) h in
      let r = and_parts (not (has_number past e.number)) (not (is_given_up wait past e.time e.number)) q.1 in
      let a = leb-true (first_number e.number past) e.number q.0 in
      let m = s.ended e.number (omega (arith, s.first_is e.number)) b in
      elim (moment_tells wait e.time e.number past m.0 m.1 (omega (arith, m.2))) [
        | inl c ↦ true≢false (sym c ∙ not-true (has_number past e.number) r.0)
        | inr g ↦ true≢false (sym g ∙ not-true (is_given_up wait past e.time e.number) r.1)
      ])

  used_now : (held : List Numbered) × (used wait (e ∷ past) ≡ out ++ held)
  used_now = elim (cases_lt e.number front) [
    | inl b ↦ (s.held, ap (λ q. cond q (by_number e (used wait past)) (used wait past)) (late b) ∙ s.used_is)
    | inr ge ↦ go (in_time wait e past) ge
  ]
    where
      go : (b : Bool) → front ≤ e.number → (held : List Numbered) × (cond b (by_number e (used wait past)) (used wait past) ≡ out ++ held)
      go true ge = (by_number e s.held, ap (by_number e) s.used_is ∙ by_number_behind e out s.held (λ u i. let r = s.low u i in omega arith))
      go false ge = (s.held, s.used_is)

  one_more : Settled wait t (e ∷ past) first front out
  one_more = record {
    held = used_now.0;
    used_is = used_now.1;
    first_is = λ n. s.first_is e.number;
    low = s.low;
    ended = λ n a b. let r = s.ended n a b in (r.0, moment_before wait e past n r.0 r.1, r.2);
  }

  -- the moments at which what is settled is ready stay
  ready_same : (u : Numbered) → In u out → ready_of wait (e ∷ past) u ≡ ready_of wait past u
  ready_same u i =
      let b = s.low u i in
      let k : latest_end wait (e ∷ past) first (suc u.number - first) ≡ latest_end wait past first (suc u.number - first)
      = last_same wait (e ∷ past) past first (suc u.number - first) (λ n a c. let r = s.ended n a (omega arith) in end_stays wait e past n r.0 r.1 (omega (arith, r.2))) in
      ap (λ n. max u.time (latest_end wait (e ∷ past) n (suc u.number - n))) (s.first_is e.number)
      ∙ (ap (max u.time) k ∙ ap (λ n. max u.time (latest_end wait past n (suc u.number - n))) (sym (s.first_is 0)))

-- ---- many more
timestamps_same : (wait : ℕ) (p q us : List Numbered) → ((u : Numbered) → In u us → ready_of wait p u ≡ ready_of wait q u) → map (stamped wait p) us ≡ map (stamped wait q) us
timestamps_same wait p q [] f = refl
timestamps_same wait p q (u ∷ us) f =
    ap (λ (n : ℕ). record { time = n; number = u.number; packet = u.packet } ∷ map (stamped wait p) us) (f u (inl refl))
    ∙ ap (λ (vs : List Numbered). stamped wait q u ∷ vs) (timestamps_same wait p q us (λ v i. f v (inr i)))

pub record Stays (wait t : ℕ) (all earlier : List Numbered) (first front : ℕ) (out : List Numbered) : Type 0 where
  pub settled : Settled wait t all first front out
  pub same : map (stamped wait all) out ≡ map (stamped wait earlier) out

pub stays : (wait t : ℕ) (later earlier : List Arrival) (first front : ℕ) (out : List Numbered) → AreFrom t later → Settled wait t (numbered earlier) first front out
    → Stays wait t (numbered (later ++ earlier)) (numbered earlier) first front out
stays wait t [] earlier first front out f s = record { settled = s; same = refl }
stays wait t (a ∷ later) earlier first front out f s =
    let r = stays wait t later earlier first front out (λ b i. f b (inr i)) s in
    let past : List Numbered = numbered (later ++ earlier) in
    let e : Numbered = number_it past a in
    let l : t ≤ e.time = f a (inl refl) in
    record {
      settled = one_more wait t e past first front out l r.settled;
      same = timestamps_same wait (e ∷ past) past out (ready_same wait t e past first front out l r.settled) ∙ r.same;
    }

-- ---- what is ready by t is settled
pub record Split (wait t : ℕ) (past : List Numbered) (first : ℕ) : Type 0 where
  pub front : ℕ
  pub out : List Numbered
  pub settled : Settled wait t past first front out
  pub sooner : (u : Numbered) → In u out → ready_of wait past u ≤ t
  pub later : (u : Numbered) → In u settled.held → t < ready_of wait past u

module _ (wait t : ℕ) (past : List Numbered) (first : ℕ) (f : Falling past) (first_is : (n : ℕ) → first_number n past ≡ first) where
  -- the last end up to its number
  abbrev last : Numbered → ℕ
  last u = latest_end wait past first (suc u.number - first)

  ready_is : (u : Numbered) → ready_of wait past u ≡ max u.time (last u)
  ready_is u = ap (λ n. max u.time (latest_end wait past n (suc u.number - n))) (first_is 0)

  begun : (u : Numbered) → In u (used wait past) → first ≤ u.number
  begun u i = subst (λ (n : ℕ). n ≤ u.number) (first_is 0) (used_above wait past u 0 i)

  -- all numbers up to that of a used packet that is ready have ended
  ends : (u : Numbered) → In u (used wait past) → ready_of wait past u ≤ t → (n : ℕ) → first ≤ n → n < suc u.number → (m : ℕ) × In m (moments wait past n) × (m ≤ t)
  ends u i r n a b = elim (cases_lt n u.number) [
    | inl lt ↦ (
      end_of wait past n,
      least_in (moments wait past n) (u.time + wait) (above_moment wait past n u (used_in wait past u i) lt),
      (let h = last_has wait past first (suc u.number - first) n a (omega arith) in omega (arith, ready_is u, r)),
    )
    | inr ge ↦ let e : n ≡ u.number = omega arith in rw e (u.time, (end_used wait past u f i).0, omega (arith, ready_is u, r))
  ]

  -- a later packet is ready no earlier
  ready_up : (u v : Numbered) → In u (used wait past) → u.number < v.number → ready_of wait past u ≤ ready_of wait past v
  ready_up u v i lt =
      let b = begun u i in
      let h = last_has wait past first (suc u.number - first) u.number b (omega arith) in
      let o = (end_used wait past u f i).1 in
      let k : last u ≤ last v = last_up wait past first (suc u.number - first) (suc v.number - first) (omega arith) in
      omega (arith, ready_is u, ready_is v)

  walk : (done us : List Numbered) (front : ℕ) → used wait past ≡ done ++ us → ((u : Numbered) → In u done → u.number < front)
      → ((n : ℕ) → first ≤ n → n < front → (m : ℕ) × In m (moments wait past n) × (m ≤ t)) → ((u : Numbered) → In u done → ready_of wait past u ≤ t) → Split wait t past first
  walk done [] front e low ended soon = record {
    front = front;
    out = done;
    settled = record { held = []; used_is = e; first_is = first_is; low = low; ended = ended };
    sooner = soon;
    later = λ u i. absurd i;
  }
  walk done (u ∷ us) front e low ended soon =
      let rises : RisingNumbers (done ++ u ∷ us) = subst RisingNumbers e (used_rises wait past) in
      let i : In u (used wait past) = subst (λ (vs : List Numbered). In u vs) (sym e) (in_right u done (u ∷ us) (inl refl)) in
      elim (cases_lt t (ready_of wait past u)) [
        | inl late ↦ record {
          front = front;
          out = done;
          settled = record { held = u ∷ us; used_is = e; first_is = first_is; low = low; ended = ended };
          sooner = soon;
          later = λ v j. elim j [ inl q ↦ subst (λ (x : Numbered). t < ready_of wait past x) (sym q) late | inr k ↦ let r = ready_up u v i (rising_above done u us rises v k) in omega (arith, late) ];
        }
        | inr now ↦ walk (done ++ u ∷ []) us (suc u.number) (e ∙ sym (append_assoc done (u ∷ []) us))
            (λ v j. elim (in_append v done (u ∷ []) j) [ inl k ↦ let r = rising_below done u us rises v k in omega arith | inr (inl q) ↦ omega (arith, ap (λ (x : Numbered). x.number) q) | inr (inr k) ↦ absurd k ])
            (ends u i now)
            (λ v j. elim (in_append v done (u ∷ []) j) [ inl k ↦ soon v k | inr (inl q) ↦ subst (λ (x : Numbered). ready_of wait past x ≤ t) (sym q) now | inr (inr k) ↦ absurd k ])
      ]

  pub split : Split wait t past first
  split = walk [] (used wait past) first refl (λ u i. absurd i) (λ n a b. absurd (omega arith)) (λ u i. absurd i)
