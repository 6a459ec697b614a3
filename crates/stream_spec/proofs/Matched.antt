-- What was used stands beside the places that it came from.
use Rattle.std.proofs.Common.{◌≡◌, ℕ, ◌+◌, ◌%◌, ◌≤◌, Bool, true, false, cond, not, ◌⊎◌, inl, inr, List, [], ◌∷◌, refl, ap, subst, sym, ◌∙◌, arith}
use Rattle.std.specs.Prelude.{◌&&◌, nat_lt, nat_le, max}
use Rattle.std.proofs.lemmas.Bool.{true≢false, and_parts, not-true}
use Rattle.std.proofs.lemmas.Bool.Decides.{nat_tests}
use Rattle.wire_spec.specs.Packets.{Arrival}
use Rattle.stream_spec.specs.Numbering.{number_it, Numbered, greatest, number_after, numbered, first_number, has_number, in_time, by_number, used, is_given_up}
use Rattle.std.specs.List.{AllZip}
use Rattle.stream_spec.specs.Lists.{In}
use Rattle.stream_spec.specs.History.{History, Placed, placed, IsPacket, Come, entry_of, top_place, by_place, places}
use Rattle.stream_spec.specs.Kept.{Rising}
use Rattle.stream_spec.proofs.Lists.{in_put, rising_with}
use Rattle.stream_spec.proofs.GivingUp.{in_has}
use Rattle.stream_spec.proofs.Timestamps.{nearest_place}

-- the number of a packet is its place, moved by a fixed amount
pub record Matches (h : History) (p d : ℕ) (u : Numbered) (x : Placed) : Type 0 where
  pub is : IsPacket h x u.packet
  pub number : u.number + p ≡ x.place + d
  pub within : In x (placed h)

-- ---- numbers
larger_moved : (m n k l p d : ℕ) → m + p ≡ k + d → n + p ≡ l + d → max m n + p ≡ max k l + d
larger_moved m n k l p d a b = grind (arith, nat_tests)

larger_zero : (n : ℕ) → max 0 n ≡ n
larger_zero n = grind (arith, nat_tests)

larger_big : (m n b : ℕ) → b ≤ m → b ≤ max m n
larger_big m n b h = grind (arith, nat_tests)

-- p and d: the place and the number of the first of all
abbrev pub IsFirst : History → ℕ → ℕ → List Arrival → Type 0
IsFirst h p d [] = Unit {0}
IsFirst h p d (a ∷ []) = ((entry_of h a.packet).place ≡ p) × (a.packet.seq + 65536 ≡ d)
IsFirst h p d (a ∷ b ∷ before) = IsFirst h p d (b ∷ before)

pub record Counted (h : History) (p d : ℕ) (a : Arrival) (before : List Arrival) : Type 0 where
  pub here : (number_it (numbered before) a).number + p ≡ (entry_of h a.packet).place + d
  pub top : greatest (numbered (a ∷ before)) + p ≡ top_place h (a ∷ before) + d
  pub big : 65536 ≤ greatest (numbered (a ∷ before))
  pub residue : d % 65536 ≡ (h.first + p) % 65536

pub counted : (h : History) (p d : ℕ) (a : Arrival) (before : List Arrival) → IsFirst h p d (a ∷ before) → Come h (a ∷ before) → Counted h p d a before
counted h p d a [] f c =
    let top : greatest (numbered (a ∷ [])) ≡ a.packet.seq + 65536 = larger_zero (a.packet.seq + 65536) in
    let place : top_place h (a ∷ []) ≡ (entry_of h a.packet).place = larger_zero (entry_of h a.packet).place in
    let seq = c.1.seq in
    let pl : (h.first + (entry_of h a.packet).place) % 65536 ≡ (h.first + p) % 65536 = ap (λ n. (h.first + n) % 65536) f.0 in
    record { here = omega arith; top = omega arith; big = omega arith; residue = omega (arith, f.1, seq, pl) }
counted h p d a (b ∷ before) f c =
    let r = counted h p d b before f c.3 in
    let here = nearest_place h.first p d (top_place h (b ∷ before)) (entry_of h a.packet).place (greatest (numbered (b ∷ before))) a.packet.seq r.big r.residue r.top c.1.seq c.2.0 c.2.1 in
    record {
      here = here;
      top = larger_moved (greatest (numbered (b ∷ before))) (number_after (numbered (b ∷ before)) a.packet.seq) (top_place h (b ∷ before)) (entry_of h a.packet).place p d r.top here;
      big = larger_big (greatest (numbered (b ∷ before))) (number_after (numbered (b ∷ before)) a.packet.seq) 65536 r.big;
      residue = r.residue;
    }

pub first_is : (h : History) (p d n : ℕ) (a : Arrival) (before : List Arrival) → IsFirst h p d (a ∷ before) → first_number n (numbered (a ∷ before)) ≡ d
first_is h p d n a [] f = f.1
first_is h p d n a (b ∷ before) f = first_is h p d (number_it (numbered (b ∷ before)) a).number b before f

-- ---- insertion
pub pairs_put : (h : History) (p d : ℕ) (u : Numbered) (x : Placed) (us : List Numbered) (xs : List Placed) → Matches h p d u x → AllZip (Matches h p d) us xs → AllZip (Matches h p d) (by_number u us) (by_place x xs)
pairs_put h p d u x [] [] m q = (m, tt)
pairs_put h p d u x [] (y ∷ ys) m q = absurd q
pairs_put h p d u x (v ∷ vs) [] m q = absurd q
pairs_put h p d u x (v ∷ vs) (y ∷ ys) m q =
    let e : nat_lt u.number v.number ≡ nat_lt x.place y.place = tests u.number v.number x.place y.place m.number q.0.number in
    go (nat_lt u.number v.number) (nat_lt x.place y.place) e (pairs_put h p d u x vs ys m q.1)
  where
    tests : (m n k l : ℕ) → m + p ≡ k + d → n + p ≡ l + d → nat_lt m n ≡ nat_lt k l
    tests m n k l a b = grind (arith, nat_tests)

    go : (s t : Bool) → s ≡ t → AllZip (Matches h p d) (by_number u vs) (by_place x ys) → AllZip (Matches h p d) (cond s (u ∷ v ∷ vs) (v ∷ by_number u vs)) (cond t (x ∷ y ∷ ys) (y ∷ by_place x ys))
    go true true e r = (m, (q.0, q.1))
    go false false e r = (q.0, r)
    go true false e r = absurd (true≢false e)
    go false true e r = absurd (true≢false (sym e))

pub matched : (wait : ℕ) (h : History) (p d : ℕ) (a : List Arrival) → IsFirst h p d a → Come h a → AllZip (Matches h p d) (used wait (numbered a)) (places wait h a)
matched wait h p d [] f c = tt
matched wait h p d (a ∷ before) f c =
    let r = matched wait h p d before (earlier before f) c.3 in
    let m : Matches h p d (number_it (numbered before) a) (entry_of h a.packet) = record { is = c.1; number = (counted h p d a before f c).here; within = c.0 } in
    go (in_time wait (number_it (numbered before) a) (numbered before)) r (pairs_put h p d (number_it (numbered before) a) (entry_of h a.packet) (used wait (numbered before)) (places wait h before) m r)
  where
    earlier : (before : List Arrival) → IsFirst h p d (a ∷ before) → IsFirst h p d before
    earlier [] f = tt
    earlier (b ∷ before) f = f

    go : (t : Bool) → AllZip (Matches h p d) (used wait (numbered before)) (places wait h before)
        → AllZip (Matches h p d) (by_number (number_it (numbered before) a) (used wait (numbered before))) (by_place (entry_of h a.packet) (places wait h before))
        → AllZip (Matches h p d) (cond t (by_number (number_it (numbered before) a) (used wait (numbered before))) (used wait (numbered before)))
        (cond t (by_place (entry_of h a.packet) (places wait h before)) (places wait h before))
    go true r q = q
    go false r q = r

-- ---- the places rise, and begin with the first
pub in_by_place : (x y : Placed) (xs : List Placed) → In y (by_place x xs) → (y ≡ x) ⊎ In y xs
in_by_place x y xs i = in_put (λ z. z.place) x y xs i

pub rising_put : (x : Placed) (xs : List Placed) → Rising xs → ((y : Placed) → In y xs → y.place ≡ x.place → ⊥) → Rising (by_place x xs)
rising_put x xs r f = rising_with (λ z. z.place) x xs r f

pub in_by_number : (x y : Numbered) (xs : List Numbered) → In y (by_number x xs) → (y ≡ x) ⊎ In y xs
in_by_number x y xs i = in_put (λ z. z.number) x y xs i

pub used_in : (wait : ℕ) (past : List Numbered) (u : Numbered) → In u (used wait past) → In u past
used_in wait [] u i = absurd i
used_in wait (e ∷ past) u i = go (in_time wait e past) (used_in wait past u) i
  where
    go : (t : Bool) → (In u (used wait past) → In u past) → In u (cond t (by_number e (used wait past)) (used wait past)) → In u (e ∷ past)
    go true f j = elim (in_by_number e u (used wait past) j) [ inl s ↦ inl s | inr k ↦ inr (f k) ]
    go false f j = inr (f j)

-- the partner of a place
partner : (h : History) (p d : ℕ) (us : List Numbered) (xs : List Placed) (x : Placed) → AllZip (Matches h p d) us xs → In x xs → (u : Numbered) × In u us × Matches h p d u x
partner h p d [] [] x q i = absurd i
partner h p d [] (y ∷ ys) x q i = absurd q
partner h p d (u ∷ us) [] x q i = absurd i
partner h p d (u ∷ us) (y ∷ ys) x q (inl e) = (u, inl refl, subst (Matches h p d u) (sym e) q.0)
partner h p d (u ∷ us) (y ∷ ys) x q (inr i) = let r = partner h p d us ys x q.1 i in (r.0, inr r.1, r.2)

pub places_rise : (wait : ℕ) (h : History) (p d : ℕ) (a : List Arrival) → IsFirst h p d a → Come h a → Rising (places wait h a)
places_rise wait h p d [] f c = tt
places_rise wait h p d (a ∷ before) f c = go (in_time wait (number_it (numbered before) a) (numbered before)) refl (places_rise wait h p d before (earlier before f) c.3)
  where
    earlier : (before : List Arrival) → IsFirst h p d (a ∷ before) → IsFirst h p d before
    earlier [] f = tt
    earlier (b ∷ before) f = f

    apart : in_time wait (number_it (numbered before) a) (numbered before) ≡ true → (y : Placed) → In y (places wait h before) → y.place ≡ (entry_of h a.packet).place → ⊥
    apart t y i e =
        let n = (number_it (numbered before) a).number in
        let q = and_parts (nat_le (first_number n (numbered before)) n) (not (has_number (numbered before) n) && not (is_given_up wait (numbered before) a.time n)) t in
        let r = and_parts (not (has_number (numbered before) n)) (not (is_given_up wait (numbered before) a.time n)) q.1 in
        let w = partner h p d (used wait (numbered before)) (places wait h before) y (matched wait h p d before (earlier before f) c.3) i in
        let same : w.0.number ≡ n = omega (arith, w.2.number, e, (counted h p d a before f c).here) in
        true≢false (sym (in_has n (numbered before) w.0 (used_in wait (numbered before) w.0 w.1) same) ∙ not-true (has_number (numbered before) n) r.0)

    go : (t : Bool) → in_time wait (number_it (numbered before) a) (numbered before) ≡ t → Rising (places wait h before)
        → Rising (cond t (by_place (entry_of h a.packet) (places wait h before)) (places wait h before))
    go true e q = rising_put (entry_of h a.packet) (places wait h before) q (apart e)
    go false e q = q
