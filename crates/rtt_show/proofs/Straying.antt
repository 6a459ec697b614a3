-- One packet more of a stream, where some came twice or late.
use Rattle.std.proofs.Common.{◌≡◌, ℕ, suc, ◌+◌, ◌-◌, ◌<◌, ◌≤◌, ◌⊎◌, Bool, true, false, cond, not, List, [], ◌∷◌, length, filter, refl, ap, sym, ◌∙◌, subst, arith, inl, inr}
use Rattle.std.specs.Prelude.{◌==◌, ◌&&◌, ◌||◌, nat_lt, nat_le}
use Rattle.std.specs.List.{list_any}
use Rattle.std.specs.Ordering.{nat_cmp}
use Rattle.std.specs.BTreeMap.{is_at}
use Rattle.std.specs.BTreeSet.{BTreeSet, Updates}
use Rattle.std.proofs.lemmas.Bool.{cases_order, true≢false, and_parts, not-true, leb-true, eqb-true, eq-eqb, ne_eqb, lt-leb, le-leb, lt-ltb, le-ltb, cases_lt, cases_eq}
use Rattle.std.proofs.lemmas.List.{length-reverse}
use Rattle.stream_spec.specs.Lists.{In}
use Rattle.stream_spec.specs.Numbering.{Numbered, used, in_time, by_number, has_number, first_number, is_given_up, distinct_from}
use Rattle.stream_spec.proofs.GivingUp.{has_in, in_has}
use Rattle.stream_spec.proofs.Matched.{used_in}
use Rattle.stream_spec.proofs.Rising.{new_number, length_by_number}
use Rattle.command_spec.specs.Reading.{usual_wait}
use Rattle.report_spec.specs.Numbers.{is_late, late}
use Rattle.report_spec.specs.Missed.{late_count}
use Rattle.rtt_show.specs.declared.strays.NumberedPacket.{NumberedPacket}
use Rattle.rtt_show.specs.declared.strays.Strays.{Strays}
use Rattle.rtt_show.specs.Finds.{one_if}
use Rattle.rtt_show.specs.Strays.{has, is_late_number, AreStrays, UsesMore, LatesMore, StraysMore}
use Rattle.std.proofs.Math.Nat.{zero-add as zero_more}
use Rattle.wire_spec.proofs.Plain.{or_swap}
use Rattle.std.proofs.Math.Bool.{and-false as and_none}

-- ---- numbers that came
has_put : (e : Numbered) (us : List Numbered) (n : ℕ) → has_number (by_number e us) n ≡ (e.number == n || has_number us n)
has_put e [] n = refl
has_put e (u ∷ us) n = go (nat_lt e.number u.number) (has_put e us n)
  where
    go : (b : Bool) → has_number (by_number e us) n ≡ (e.number == n || has_number us n) → has_number (cond b (e ∷ u ∷ us) (u ∷ by_number e us)) n ≡ (e.number == n || (u.number == n || has_number us n))
    go true h = refl
    go false h = ap (λ b. u.number == n || b) h ∙ or_swap (u.number == n) (e.number == n) (has_number us n)

module _ (wait : ℕ) where
  parts : (e : Numbered) (past : List Numbered) → in_time wait e past ≡ true → (nat_le (first_number e.number past) e.number ≡ true) × ((not (has_number past e.number) && not (is_given_up wait past e.time e.number)) ≡ true)
  parts e past t = and_parts (nat_le (first_number e.number past) e.number) (not (has_number past e.number) && not (is_given_up wait past e.time e.number)) t

  fresh : (e : Numbered) (past : List Numbered) → in_time wait e past ≡ true → has_number past e.number ≡ false
  fresh e past t = not-true (has_number past e.number) (and_parts (not (has_number past e.number)) (not (is_given_up wait past e.time e.number)) (parts e past t).1).0

  above_first : (e : Numbered) (past : List Numbered) → in_time wait e past ≡ true → first_number e.number past ≤ e.number
  above_first e past t = leb-true (first_number e.number past) e.number (parts e past t).0

  used_came : (past : List Numbered) (n : ℕ) → has_number (used wait past) n ≡ true → has_number past n ≡ true
  used_came past n h = let r = has_in n (used wait past) h in in_has n past r.0 (used_in wait past r.0 r.1) r.2

  -- ---- late
  late_length : (past : List Numbered) → late_count wait past ≡ length (filter (is_late (used wait past)) past)
  late_length past = length-reverse (filter (is_late (used wait past)) past)

  others_late : (e : Numbered) (us xs : List Numbered) → ((y : Numbered) → In y xs → y.number ≡ e.number → ⊥) → filter (is_late (by_number e us)) xs ≡ filter (is_late us) xs
  others_late e us [] f = refl
  others_late e us (x ∷ xs) f =
      let same : is_late (by_number e us) x ≡ is_late us x = ap not (has_put e us x.number ∙ ap (λ b. b || has_number us x.number) (ne_eqb e.number x.number (λ q. f x (inl refl) (sym q)))) in
      ap (λ b. cond b (x ∷ filter (is_late (by_number e us)) xs) (filter (is_late (by_number e us)) xs)) same
      ∙ ap (λ ys. cond (is_late us x) (x ∷ ys) ys) (others_late e us xs (λ y i. f y (inr i)))

  one_late : (us xs : List Numbered) (e : Numbered) → length (filter (is_late us) (e ∷ xs)) ≡ one_if (not (has_number us e.number)) + length (filter (is_late us) xs)
  one_late us xs e = go (not (has_number us e.number))
    where
      go : (b : Bool) → length (cond b (e ∷ filter (is_late us) xs) (filter (is_late us) xs)) ≡ one_if b + length (filter (is_late us) xs)
      go true = omega arith
      go false = omega arith

  pub late_in_time : (e : Numbered) (past : List Numbered) → in_time wait e past ≡ true → late_count wait (e ∷ past) ≡ late_count wait past
  late_in_time e past t =
      late_length (e ∷ past)
      ∙ (ap (λ b. length (filter (is_late (cond b (by_number e (used wait past)) (used wait past))) (e ∷ past))) t
      ∙ (one_late (by_number e (used wait past)) past e
      ∙ (ap (λ b. one_if (not b) + length (filter (is_late (by_number e (used wait past))) past)) (has_put e (used wait past) e.number ∙ ap (λ b. b || has_number (used wait past) e.number) (eq-eqb e.number e.number refl))
      ∙ (ap (λ (xs : List Numbered). 0 + length xs) (others_late e (used wait past) past (new_number wait e past t)) ∙ (zero_more (length (filter (is_late (used wait past)) past)) ∙ sym (late_length past))))))

  pub late_besides : (e : Numbered) (past : List Numbered) → in_time wait e past ≡ false → late_count wait (e ∷ past) ≡ one_if (not (has_number (used wait past) e.number)) + late_count wait past
  late_besides e past t =
      late_length (e ∷ past)
      ∙ (ap (λ b. length (filter (is_late (cond b (by_number e (used wait past)) (used wait past))) (e ∷ past))) t
      ∙ (one_late (used wait past) past e
      ∙ ap (λ n. one_if (not (has_number (used wait past) e.number)) + n) (sym (late_length past))))

  -- ---- numbers above the first
  above_more : (e : Numbered) (past : List Numbered) (first : ℕ) → has_number past e.number ≡ false → first ≤ e.number → distinct_from (suc first) (e ∷ past) ≡ one_if (not (e.number == first)) + distinct_from (suc first) past
  above_more e past first f low = elim (cases_eq e.number first) [
    | inl q ↦ rw (f, eq-eqb e.number first q, lt-leb (suc first) e.number (omega (arith, q))) refl
    | inr q ↦ rw (f, ne_eqb e.number first q, le-leb (suc first) e.number (omega (arith, low, q))) refl
  ]

  -- the first number came
  first_came : (n : ℕ) (x : Numbered) (past : List Numbered) → has_number (x ∷ past) (first_number n (x ∷ past)) ≡ true
  first_came n x [] = ap (λ b. b || false) (eq-eqb x.number x.number refl)
  first_came n x (y ∷ past) = go (x.number == first_number n (x ∷ y ∷ past)) (first_came x.number y past)
    where
      go : (b : Bool) → has_number (y ∷ past) (first_number x.number (y ∷ past)) ≡ true → (b || has_number (y ∷ past) (first_number x.number (y ∷ past))) ≡ true
      go true h = refl
      go false h = h

  pub used_few : (past : List Numbered) → length (used wait past) ≤ length past
  used_few [] = omega arith
  used_few (e ∷ past) = go (in_time wait e past) (used_few past)
    where
      go : (b : Bool) → length (used wait past) ≤ length past → length (cond b (by_number e (used wait past)) (used wait past)) ≤ length (e ∷ past)
      go true h = omega (arith, h, length_by_number e (used wait past))
      go false h = omega (arith, h)

  -- each packet was used
  pub in_order : (past : List Numbered) → length past ≡ length (used wait past) → (late_count wait past ≡ 0) × (distinct_from (suc (first_number 0 past)) past ≡ length past - 1)
  in_order [] h = (refl, refl)
  in_order (e ∷ past) h = go (in_time wait e past) refl h (in_order past)
    where
      rest : (past : List Numbered) → in_time wait e past ≡ true → distinct_from (suc (first_number 0 past)) past ≡ length past - 1 → distinct_from (suc (first_number e.number past)) (e ∷ past) ≡ length (e ∷ past) - 1
      rest [] t d =
          let same : one_if (not (e.number == e.number)) ≡ 0 = ap (λ b. one_if (not b)) (eq-eqb e.number e.number refl) in
          omega (arith, above_more e [] e.number (fresh e [] t) (omega arith), same)
      rest (x ∷ xs) t d =
          let first = first_number e.number (x ∷ xs) in
          let apart : (e.number == first) ≡ false = ne_eqb e.number first (λ q. true≢false (sym (ap (has_number (x ∷ xs)) q ∙ first_came e.number x xs) ∙ fresh e (x ∷ xs) t)) in
          let one : one_if (not (e.number == first)) ≡ 1 = ap (λ b. one_if (not b)) apart in
          let before : distinct_from (suc first) (x ∷ xs) ≡ length (x ∷ xs) - 1 = d in
          omega (arith, above_more e (x ∷ xs) first (fresh e (x ∷ xs) t) (above_first e (x ∷ xs) t), one, before)

      go : (b : Bool) → in_time wait e past ≡ b → suc (length past) ≡ length (cond b (by_number e (used wait past)) (used wait past))
          → (length past ≡ length (used wait past) → (late_count wait past ≡ 0) × (distinct_from (suc (first_number 0 past)) past ≡ length past - 1))
          → (late_count wait (e ∷ past) ≡ 0) × (distinct_from (suc (first_number e.number past)) (e ∷ past) ≡ length (e ∷ past) - 1)
      go true t n ih =
          let r = ih (omega (arith, n, length_by_number e (used wait past))) in
          (late_in_time e past t ∙ r.0, rest past t r.1)
      go false t n ih = absurd (omega (arith, n, used_few past))

-- ---- what came twice or late
-- the same, by the first number of one packet more
abbrev Firsts : Strays → List Numbered → ℕ → Type 0
Firsts s past first = ((n : ℕ) → has s.late n ≡ is_late_number first past n) × (s.above ≡ distinct_from (suc first) past)

by_first : (s : Strays) (past : List Numbered) (m : ℕ) → AreStrays s past → Firsts s past (first_number m past)
by_first s [] m a = ((λ n. a.late n ∙ (and_none (nat_lt 0 n) ∙ sym (and_none (nat_lt m n)))), a.above)
by_first s (x ∷ past) m a = (a.late, a.above)

-- of a number that is used now: had it come?
late_same : (p h u : Bool) → (p ≡ true → h ≡ false) → ((p || h) && not (p || u)) ≡ (h && not u)
late_same true h u f = ap (λ b. b && not u) (sym (f refl))
late_same false h u f = refl

late_again : (p h u : Bool) → (p ≡ true → u ≡ true) → ((p || h) && not u) ≡ (h && not u)
late_again true h u f = ap not (f refl) ∙ sym (ap (λ b. h && not b) (f refl) ∙ and_none h)
late_again false h u f = refl

late_new : (f g p h u : Bool) → (p ≡ true → f ≡ g) → (p ≡ true → u ≡ false) → ((f && p) || (g && (h && not u))) ≡ (g && ((p || h) && not u))
late_new f g true h u same off = ap (λ b. (b && true) || (g && (h && not u))) (same refl) ∙ (ap (λ b. (g && true) || (g && (h && not b))) (off refl) ∙ (two g h ∙ sym (ap (λ b. g && not b) (off refl))))
  where
    two : (a b : Bool) → ((a && true) || (a && (b && true))) ≡ (a && true)
    two true b = refl
    two false b = refl
late_new true g false h u same off = refl
late_new false g false h u same off = refl

abbrev U : List Numbered → List Numbered
U past = used usual_wait past

-- nothing came yet
pub strays_none : (s : Strays) → s.used.keys ≡ [] → s.late.keys ≡ [] → s.packets ≡ 0 → s.above ≡ 0 → AreStrays s []
strays_none s u l p a = record {
  used = λ n. ap (list_any (is_at (nat_cmp n))) u;
  late = λ n. ap (list_any (is_at (nat_cmp n))) l ∙ sym (and_none (nat_lt 0 n));
  packets = p;
  above = a;
}

-- a set with a number more
at_is : (k n : ℕ) → is_at (nat_cmp k) n ≡ (k == n)
at_is k n = elim (cases_order k n) [
  | inl e ↦ rw (eq-eqb k n e, le-ltb k n (omega (arith, e))) refl
  | inr (inl lt) ↦ rw (lt-ltb k n lt, ne_eqb k n (λ e. omega (arith, e, lt))) refl
  | inr (inr gt) ↦ rw (le-ltb k n (omega (arith, gt)), ne_eqb k n (λ e. omega (arith, e, gt))) refl
]

has_more : (s t : BTreeSet ℕ) (k : ℕ) → Updates nat_cmp s t k true → (n : ℕ) → has t n ≡ (k == n || has s n)
has_more s t k u n = u.0 n ∙ (ap (λ b. cond b true (has s n)) (at_is k n) ∙ go (k == n))
  where
    go : (b : Bool) → cond b true (has s n) ≡ (b || has s n)
    go true = refl
    go false = refl

pub used_is_more : (old new : Strays) (number first : ℕ) → Updates nat_cmp old.used new.used number true → new.late ≡ old.late → new.packets ≡ old.packets → new.above ≡ old.above + one_if (not (number == first)) → UsesMore old number first new
used_is_more old new number first u l p a = record {
  used = has_more old.used new.used number u;
  late = λ n. ap (λ (s : BTreeSet ℕ). has s n) l;
  packets = p;
  above = a;
}

-- one that is not above the first
pub late_is_low : (old new : Strays) (number first : ℕ) → number ≤ first → new.used ≡ old.used → new.late ≡ old.late → new.packets ≡ old.packets + 1 → new.above ≡ old.above → LatesMore old number first new
late_is_low old new number first low u l p a =
    let off : nat_lt first number ≡ false = le-ltb first number low in
    record {
      used = λ n. ap (λ (s : BTreeSet ℕ). has s n) u;
      late = λ n. ap (λ (s : BTreeSet ℕ). has s n) l ∙ sym (ap (λ b. (b && number == n) || has old.late n) off);
      packets = p;
      above = a ∙ (none old.above ∙ sym (ap (λ b. old.above + one_if (b && not (has old.late number))) off));
    }
  where
    none : (m : ℕ) → m ≡ m + 0
    none m = omega arith

pub late_is_more : (old new : Strays) (number first : ℕ) (added : Bool) → first < number → added ≡ not (has old.late number) → Updates nat_cmp old.late new.late number true → new.used ≡ old.used → new.packets ≡ old.packets + 1 → new.above ≡ old.above + one_if added
    → LatesMore old number first new
late_is_more old new number first added high is l u p a =
    let on : nat_lt first number ≡ true = lt-ltb first number high in
    record {
      used = λ n. ap (λ (s : BTreeSet ℕ). has s n) u;
      late = λ n. has_more old.late new.late number l n ∙ sym (ap (λ b. (b && number == n) || has old.late n) on);
      packets = p;
      above = a ∙ (ap (λ b. old.above + one_if b) is ∙ sym (ap (λ b. old.above + one_if (b && not (has old.late number))) on));
    }

pub used_more : (s t : Strays) (past : List Numbered) (e : Numbered) → in_time usual_wait e past ≡ true → AreStrays s past → UsesMore s e.number (first_number e.number past) t → AreStrays t (e ∷ past)
used_more s t past e timely a u =
    let first = first_number e.number past in
    let old = by_first s past e.number a in
    let now : (n : ℕ) → has_number (used usual_wait (e ∷ past)) n ≡ (e.number == n || has_number (U past) n) = λ n. ap (λ b. has_number (cond b (by_number e (U past)) (U past)) n) timely ∙ has_put e (U past) n in
    record {
      used = λ n. u.used n ∙ (ap (λ b. e.number == n || b) (a.used n) ∙ sym (now n));
      late = λ n.
          u.late n ∙ (old.0 n
          ∙ sym (ap (λ b. nat_lt first n && ((e.number == n || has_number past n) && not b)) (now n)
          ∙ ap (λ b. nat_lt first n && b) (late_same (e.number == n) (has_number past n) (has_number (U past) n) (λ p. ap (has_number past) (sym (eqb-true e.number n p)) ∙ fresh usual_wait e past timely))));
      packets = u.packets ∙ (a.packets ∙ sym (late_in_time usual_wait e past timely));
      above = u.above ∙ (ap (λ n. n + one_if (not (e.number == first))) old.1 ∙ (turned (distinct_from (suc first) past) (one_if (not (e.number == first))) ∙ sym (above_more usual_wait e past first (fresh usual_wait e past timely) (above_first usual_wait e past timely))));
    }
  where
    turned : (m n : ℕ) → m + n ≡ n + m
    turned m n = omega arith

-- it was used before
pub again_more : (s : Strays) (past : List Numbered) (e : Numbered) → in_time usual_wait e past ≡ false → has s.used e.number ≡ true → AreStrays s past → AreStrays s (e ∷ past)
again_more s past e late seen a =
    let first = first_number e.number past in
    let old = by_first s past e.number a in
    let was : has_number (U past) e.number ≡ true = sym (a.used e.number) ∙ seen in
    let now : (n : ℕ) → has_number (used usual_wait (e ∷ past)) n ≡ has_number (U past) n = λ n. ap (λ b. has_number (cond b (by_number e (U past)) (U past)) n) late in
    record {
      used = λ n. a.used n ∙ sym (now n);
      late = λ n.
          old.0 n
          ∙ sym (ap (λ b. nat_lt first n && ((e.number == n || has_number past n) && not b)) (now n)
          ∙ ap (λ b. nat_lt first n && b) (late_again (e.number == n) (has_number past n) (has_number (U past) n) (λ p. ap (has_number (U past)) (sym (eqb-true e.number n p)) ∙ was)));
      packets = a.packets ∙ sym (late_besides usual_wait e past late ∙ (ap (λ b. one_if (not b) + late_count usual_wait past) was ∙ zero_more (late_count usual_wait past)));
      above = old.1 ∙ sym (ap (λ b. one_if (nat_le (suc first) e.number && not b) + distinct_from (suc first) past) (used_came usual_wait past e.number was) ∙ (ap (λ b. one_if b + distinct_from (suc first) past) (and_none (nat_le (suc first) e.number)) ∙ zero_more (distinct_from (suc first) past)));
    }

-- it comes too late
pub late_more : (s t : Strays) (past : List Numbered) (e : Numbered) → in_time usual_wait e past ≡ false → has s.used e.number ≡ false → AreStrays s past → LatesMore s e.number (first_number e.number past) t → AreStrays t (e ∷ past)
late_more s t past e late unseen a l =
    let first = first_number e.number past in
    let old = by_first s past e.number a in
    let off : has_number (U past) e.number ≡ false = sym (a.used e.number) ∙ unseen in
    let now : (n : ℕ) → has_number (used usual_wait (e ∷ past)) n ≡ has_number (U past) n = λ n. ap (λ b. has_number (cond b (by_number e (U past)) (U past)) n) late in
    record {
      used = λ n. l.used n ∙ (a.used n ∙ sym (now n));
      late = λ n.
          l.late n
          ∙ (ap (λ b. (nat_lt first e.number && e.number == n) || b) (old.0 n)
          ∙ (late_new (nat_lt first e.number) (nat_lt first n) (e.number == n) (has_number past n) (has_number (U past) n) (λ p. ap (nat_lt first) (eqb-true e.number n p)) (λ p. ap (has_number (U past)) (sym (eqb-true e.number n p)) ∙ off)
          ∙ sym (ap (λ b. nat_lt first n && ((e.number == n || has_number past n) && not b)) (now n))));
      packets = l.packets ∙ (ap (λ n. n + 1) a.packets ∙ (turned (late_count usual_wait past) ∙ sym (late_besides usual_wait e past late ∙ ap (λ b. one_if (not b) + late_count usual_wait past) off)));
      above = l.above ∙ (ap (λ n. n + one_if (nat_lt first e.number && not (has s.late e.number))) old.1 ∙ counted (distinct_from (suc first) past) (old.0 e.number ∙ ap (λ b. nat_lt first e.number && (has_number past e.number && not b)) off));
    }
  where
    turned : (m : ℕ) → m + 1 ≡ 1 + m
    turned m = omega arith

    counted : (d : ℕ) → has s.late e.number ≡ (nat_lt (first_number e.number past) e.number && (has_number past e.number && true))
        → d + one_if (nat_lt (first_number e.number past) e.number && not (has s.late e.number)) ≡ one_if (nat_le (suc (first_number e.number past)) e.number && not (has_number past e.number)) + d
    counted d h =
        let first = first_number e.number past in
        ap (λ b. d + one_if (nat_lt first e.number && not b)) h ∙ by (cases_lt first e.number)
      where
        both : (h : Bool) → d + one_if (not (h && true)) ≡ one_if (not h) + d
        both true = omega arith
        both false = omega arith

        by : (first_number e.number past < e.number) ⊎ (e.number ≤ first_number e.number past)
            → d + one_if (nat_lt (first_number e.number past) e.number && not (nat_lt (first_number e.number past) e.number && (has_number past e.number && true))) ≡ one_if (nat_le (suc (first_number e.number past)) e.number && not (has_number past e.number)) + d
        by (inl low) = rw (lt-ltb (first_number e.number past) e.number low) (both (has_number past e.number))
        by (inr high) = rw (le-ltb (first_number e.number past) e.number high) (omega arith)

-- ---- a packet that came
pub stray_used : (old new : Strays) (c : NumberedPacket) (first : ℕ) → c.in_time ≡ true → UsesMore old c.number first new → StraysMore old c first new
stray_used old new c first t u past e is f a =
    used_more old new past e (sym is.in_time ∙ t) a
    (subst (λ n. UsesMore old e.number n new) f (subst (λ n. UsesMore old n first new) is.number u))

pub stray_again : (old : Strays) (c : NumberedPacket) (first : ℕ) → c.in_time ≡ false → has old.used c.number ≡ true → StraysMore old c first old
stray_again old c first t seen past e is f a = again_more old past e (sym is.in_time ∙ t) (ap (has old.used) (sym is.number) ∙ seen) a

pub stray_late : (old new : Strays) (c : NumberedPacket) (first : ℕ) → c.in_time ≡ false → has old.used c.number ≡ false → LatesMore old c.number first new → StraysMore old c first new
stray_late old new c first t unseen l past e is f a =
    late_more old new past e (sym is.in_time ∙ t) (ap (has old.used) (sym is.number) ∙ unseen) a
    (subst (λ n. LatesMore old e.number n new) f (subst (λ n. LatesMore old n first new) is.number l))
