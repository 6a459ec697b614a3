-- Used packets rise in number, from the first number on.
use Rattle.std.proofs.Common.{◌≡◌, ℕ, suc, ◌<◌, ◌≤◌, Bool, true, false, cond, not, ◌⊎◌, inl, inr, List, [], ◌∷◌, ◌++◌, length, refl, ap, sym, ◌∙◌, arith}
use Rattle.std.specs.Prelude.{filter, ◌&&◌, nat_le, nat_lt}
use Rattle.std.proofs.lemmas.Bool.{true≢false, leb-true, and_parts, not-true}
use Rattle.stream_spec.specs.Lists.{In}
use Rattle.stream_spec.specs.Numbering.{Numbered, RisingNumbers, used, in_time, by_number, has_number, first_number, is_given_up}
use Rattle.stream_spec.proofs.Lists.{in_filter, in_right, rising_with}
use Rattle.stream_spec.proofs.GivingUp.{in_has}
use Rattle.stream_spec.proofs.Matched.{in_by_number, used_in}

-- ---- one more
pub length_by_number : (e : Numbered) (xs : List Numbered) → length (by_number e xs) ≡ suc (length xs)
length_by_number e [] = refl
length_by_number e (x ∷ xs) = go (nat_lt e.number x.number) (length_by_number e xs)
  where
    go : (t : Bool) → length (by_number e xs) ≡ suc (length xs) → length (cond t (e ∷ x ∷ xs) (x ∷ by_number e xs)) ≡ suc (suc (length xs))
    go true h = refl
    go false h = ap suc h

pub by_number_in : (e y : Numbered) (xs : List Numbered) → (y ≡ e) ⊎ In y xs → In y (by_number e xs)
by_number_in e y [] (inl q) = inl q
by_number_in e y [] (inr i) = absurd i
by_number_in e y (x ∷ xs) i = go (nat_lt e.number x.number) (by_number_in e y xs) i
  where
    go : (t : Bool) → ((y ≡ e) ⊎ In y xs → In y (by_number e xs)) → (y ≡ e) ⊎ In y (x ∷ xs) → In y (cond t (e ∷ x ∷ xs) (x ∷ by_number e xs))
    go true f (inl q) = inl q
    go true f (inr j) = inr j
    go false f (inl q) = inr (f (inl q))
    go false f (inr (inl q)) = inl q
    go false f (inr (inr j)) = inr (f (inr j))

pub rising_put : (x : Numbered) (xs : List Numbered) → RisingNumbers xs → ((y : Numbered) → In y xs → y.number ≡ x.number → ⊥) → RisingNumbers (by_number x xs)
rising_put x xs r f = rising_with (λ z. z.number) x xs r f

pub new_number : (wait : ℕ) (e : Numbered) (past : List Numbered) → in_time wait e past ≡ true → (y : Numbered) → In y past → y.number ≡ e.number → ⊥
new_number wait e past t y i same =
    let parts = and_parts (nat_le (first_number e.number past) e.number) (not (has_number past e.number) && not (is_given_up wait past e.time e.number)) t in
    let fresh = (and_parts (not (has_number past e.number)) (not (is_given_up wait past e.time e.number)) parts.1).0 in
    true≢false (sym (in_has e.number past y i same) ∙ not-true (has_number past e.number) fresh)

pub used_rises : (wait : ℕ) (past : List Numbered) → RisingNumbers (used wait past)
used_rises wait [] = tt
used_rises wait (e ∷ past) = go (in_time wait e past) refl (used_rises wait past)
  where
    go : (t : Bool) → in_time wait e past ≡ t → RisingNumbers (used wait past) → RisingNumbers (cond t (by_number e (used wait past)) (used wait past))
    go true q r = rising_put e (used wait past) r (λ y i. new_number wait e past q y (used_in wait past y i))
    go false q r = r

pub rising_filter : (p : Numbered → Bool) (us : List Numbered) → RisingNumbers us → RisingNumbers (filter p us)
rising_filter p [] r = tt
rising_filter p (u ∷ us) r = go (p u) (rising_filter p us r.1)
  where
    go : (b : Bool) → RisingNumbers (filter p us) → RisingNumbers (cond b (u ∷ filter p us) (filter p us))
    go true q = ((λ y i. r.0 y (in_filter p y us i).0), q)
    go false q = q

pub used_above : (wait : ℕ) (past : List Numbered) (u : Numbered) (n : ℕ) → In u (used wait past) → first_number n past ≤ u.number
used_above wait [] u n i = absurd i
used_above wait (e ∷ past) u n i = go (in_time wait e past) refl (used_above wait past u e.number) i
  where
    go : (b : Bool) → in_time wait e past ≡ b → (In u (used wait past) → first_number e.number past ≤ u.number) → In u (cond b (by_number e (used wait past)) (used wait past)) → first_number e.number past ≤ u.number
    go false t ih j = ih j
    go true t ih j = elim (in_by_number e u (used wait past) j) [
      | inl s ↦ let l = leb-true (first_number e.number past) e.number (and_parts (nat_le (first_number e.number past) e.number) (not (has_number past e.number) && not (is_given_up wait past e.time e.number)) t).0 in omega (arith, ap (λ (z : Numbered). z.number) s)
      | inr k ↦ ih k
    ]

-- what was used stays so
pub used_more : (wait : ℕ) (e : Numbered) (past : List Numbered) (u : Numbered) → In u (used wait past) → In u (used wait (e ∷ past))
used_more wait e past u i = go (in_time wait e past)
  where
    go : (b : Bool) → In u (cond b (by_number e (used wait past)) (used wait past))
    go true = by_number_in e u (used wait past) (inr i)
    go false = i

-- ---- parts of a rising list
pub rising_above : (xs : List Numbered) (x : Numbered) (ys : List Numbered) → RisingNumbers (xs ++ x ∷ ys) → (y : Numbered) → In y ys → x.number < y.number
rising_above [] x ys r y i = r.0 y i
rising_above (z ∷ xs) x ys r y i = rising_above xs x ys r.1 y i

-- what stands in a rising list stands above all before it
pub rising_below : (xs : List Numbered) (x : Numbered) (ys : List Numbered) → RisingNumbers (xs ++ x ∷ ys) → (y : Numbered) → In y xs → y.number < x.number
rising_below [] x ys r y i = absurd i
rising_below (z ∷ xs) x ys r y (inl e) = let l = r.0 x (in_right x xs (x ∷ ys) (inl refl)) in omega (arith, ap (λ (w : Numbered). w.number) e)
rising_below (z ∷ xs) x ys r y (inr i) = rising_below xs x ys r.1 y i
