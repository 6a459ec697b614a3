-- Lists in the order of what is given of each element.
use Rattle.std.proofs.Common.{◌≡◌, ℕ, zero, suc, ◌+◌, ◌<◌, ◌≤◌, max, Bool, true, false, cond, List, [], ◌∷◌, ◌++◌, map, filter, refl, ap, sym, ◌∙◌, subst, arith, nat_lt, ◌==◌, ◌⊎◌, inl, inr, ne_eqb, eq-eqb, lt-ltb, le-ltb, ◌-◌, append-nil}
use Rattle.std.proofs.lemmas.Bool.{cases_lt}
use Rattle.std.proofs.lemmas.List.{map-append}
use Rattle.std.proofs.lemmas.List.Elements.{filter-append}
use Rattle.stream_spec.specs.Lists.{In}
use Rattle.report_spec.specs.Ordered.{end_by, given_by, ordered_below, ordered_by}

module _ {X : Type 0} (f : X → ℕ) where
  -- of each of these n is given or more
  abbrev pub AreFrom : ℕ → List X → Type 0
  AreFrom n xs = (x : X) → In x xs → n ≤ f x

  -- what is given never falls
  abbrev pub Rises : List X → Type 0
  Rises [] = Unit {0}
  Rises (x ∷ xs) = AreFrom (f x) xs × Rises xs

  abbrev pub before : ℕ → List X → List X
  before n xs = filter (λ x. nat_lt (f x) n) xs

  none_before : (n : ℕ) (xs : List X) → AreFrom n xs → before n xs ≡ []
  none_before n [] a = refl
  none_before n (x ∷ xs) a =
      ap (λ b. cond b (x ∷ before n xs) (before n xs)) (le-ltb (f x) n (a x (inl refl)))
      ∙ none_before n xs (λ y i. a y (inr i))

  -- ---- number after number
  next_number : (n : ℕ) (xs : List X) → Rises xs → before n xs ++ given_by f n xs ≡ before (suc n) xs
  next_number n [] r = refl
  next_number n (x ∷ xs) r = go (cases_lt (f x) n) (cases_lt n (f x)) (next_number n xs r.1)
    where
      both : (b c d : Bool) → nat_lt (f x) n ≡ b → (f x == n) ≡ c → nat_lt (f x) (suc n) ≡ d → cond b (x ∷ before n xs) (before n xs) ++ cond c (x ∷ given_by f n xs) (given_by f n xs) ≡ cond d (x ∷ before (suc n) xs) (before (suc n) xs)
          → before n (x ∷ xs) ++ given_by f n (x ∷ xs) ≡ before (suc n) (x ∷ xs)
      both b c d e g h i =
          ap (λ t. cond t (x ∷ before n xs) (before n xs) ++ cond (f x == n) (x ∷ given_by f n xs) (given_by f n xs)) e
          ∙ (ap (λ t. cond b (x ∷ before n xs) (before n xs) ++ cond t (x ∷ given_by f n xs) (given_by f n xs)) g
          ∙ (i ∙ ap (λ t. cond t (x ∷ before (suc n) xs) (before (suc n) xs)) (sym h)))

      go : (f x < n) ⊎ (n ≤ f x) → (n < f x) ⊎ (f x ≤ n) → before n xs ++ given_by f n xs ≡ before (suc n) xs → before n (x ∷ xs) ++ given_by f n (x ∷ xs) ≡ before (suc n) (x ∷ xs)
      go (inl low) w rest = both true false true (lt-ltb (f x) n low) (ne_eqb (f x) n (λ e. omega (arith, low, e))) (lt-ltb (f x) (suc n) (omega (arith, low))) (ap (λ ys. x ∷ ys) rest)
      go (inr high) (inl above) rest = both false false false (le-ltb (f x) n high) (ne_eqb (f x) n (λ e. omega (arith, above, e))) (le-ltb (f x) (suc n) (omega (arith, above))) rest
      go (inr high) (inr same) rest =
          let none : before n xs ≡ [] = none_before n xs (λ y i. omega (arith, high, r.0 y i)) in
          both false true true (le-ltb (f x) n high) (eq-eqb (f x) n (omega (arith, high, same))) (lt-ltb (f x) (suc n) (omega (arith, same)))
          (ap (λ ys. ys ++ x ∷ given_by f n xs) none ∙ ap (λ ys. x ∷ ys) (ap (λ ys. ys ++ given_by f n xs) (sym none) ∙ rest))

  below_before : (n : ℕ) (xs : List X) → Rises xs → ordered_below f n xs ≡ before n xs
  below_before zero xs r = sym (none_before 0 xs (λ x i. omega arith))
  below_before (suc n) xs r = ap (λ ys. ys ++ given_by f n xs) (below_before n xs r) ∙ next_number n xs r

  all_before : (n : ℕ) (xs : List X) → end_by f xs ≤ n → before n xs ≡ xs
  all_before n [] e = refl
  all_before n (x ∷ xs) e =
      ap (λ b. cond b (x ∷ before n xs) (before n xs)) (lt-ltb (f x) n (omega (arith, e)))
      ∙ ap (λ ys. x ∷ ys) (all_before n xs (omega (arith, e)))

  -- so a list in which it never falls is in order as it stands
  pub as_it_stands : (n : ℕ) (xs : List X) → Rises xs → end_by f xs ≤ n → ordered_below f n xs ≡ xs
  as_it_stands n xs r e = below_before n xs r ∙ all_before n xs e

  -- ---- nothing is given from the end on
  none_given : (n : ℕ) (xs : List X) → end_by f xs ≤ n → given_by f n xs ≡ []
  none_given n [] e = refl
  none_given n (x ∷ xs) e =
      ap (λ b. cond b (x ∷ given_by f n xs) (given_by f n xs)) (ne_eqb (f x) n (λ g. omega (arith, e, g)))
      ∙ none_given n xs (omega (arith, e))

  append_none : (xs ys : List X) → ys ≡ [] → xs ++ ys ≡ xs
  append_none xs ys e = ap (λ zs. xs ++ zs) e ∙ append-nil xs

  farther : (k n : ℕ) (xs : List X) → end_by f xs ≤ n → ordered_below f (k + n) xs ≡ ordered_below f n xs
  farther zero n xs e =
      let none : 0 + n ≡ n = omega arith in
      ap (λ k. ordered_below f k xs) none
  farther (suc k) n xs e =
      let less : suc k + n ≡ suc (k + n) = omega arith in
      ap (λ j. ordered_below f j xs) less
      ∙ (append_none (ordered_below f (k + n) xs) (given_by f (k + n) xs) (none_given (k + n) xs (omega (arith, e))) ∙ farther k n xs e)

  pub from_end : (n : ℕ) (xs : List X) → end_by f xs ≤ n → ordered_below f n xs ≡ ordered_by f xs
  from_end n xs e =
      let split : n ≡ (n - end_by f xs) + end_by f xs = omega (arith, e) in
      ap (λ k. ordered_below f k xs) split ∙ farther (n - end_by f xs) (end_by f xs) xs (omega arith)

  -- ---- a list that has the same of each number
  same_below : (n : ℕ) (xs ys : List X) → ((k : ℕ) → given_by f k ys ≡ given_by f k xs) → ordered_below f n ys ≡ ordered_below f n xs
  same_below zero xs ys s = refl
  same_below (suc n) xs ys s = ap (λ zs. zs ++ given_by f n ys) (same_below n xs ys s) ∙ ap (λ zs. ordered_below f n xs ++ zs) (s n)

  -- what never falls, and has the same of each number, is in the order
  pub is_ordered : (xs ys : List X) → Rises ys → ((k : ℕ) → given_by f k ys ≡ given_by f k xs) → ys ≡ ordered_by f xs
  is_ordered xs ys r s = at (max (end_by f xs) (end_by f ys)) (omega arith) (omega arith)
    where
      at : (n : ℕ) → end_by f xs ≤ n → end_by f ys ≤ n → ys ≡ ordered_by f xs
      at n one other = sym (as_it_stands n ys r other) ∙ (same_below n xs ys s ∙ from_end n xs one)

  -- ---- some of the elements
  module _ (p : X → Bool) where
    end_fewer : (xs : List X) → end_by f (filter p xs) ≤ end_by f xs
    end_fewer [] = omega arith
    end_fewer (x ∷ xs) = go (p x) (end_fewer xs)
      where
        go : (b : Bool) → end_by f (filter p xs) ≤ end_by f xs → end_by f (cond b (x ∷ filter p xs) (filter p xs)) ≤ end_by f (x ∷ xs)
        go true e = omega (arith, e)
        go false e = omega (arith, e)

    fewer_given : (n : ℕ) (xs : List X) → filter p (given_by f n xs) ≡ given_by f n (filter p xs)
    fewer_given n [] = refl
    fewer_given n (x ∷ xs) = go (p x) (f x == n) refl refl (fewer_given n xs)
      where
        go : (b c : Bool) → p x ≡ b → (f x == n) ≡ c → filter p (given_by f n xs) ≡ given_by f n (filter p xs) → filter p (cond (f x == n) (x ∷ given_by f n xs) (given_by f n xs)) ≡ given_by f n (cond (p x) (x ∷ filter p xs) (filter p xs))
        go true true e g rest =
            ap (λ t. filter p (cond t (x ∷ given_by f n xs) (given_by f n xs))) g
            ∙ (ap (λ t. cond t (x ∷ filter p (given_by f n xs)) (filter p (given_by f n xs))) e
            ∙ (ap (λ ys. x ∷ ys) rest
            ∙ (ap (λ t. cond t (x ∷ given_by f n (filter p xs)) (given_by f n (filter p xs))) (sym g)
            ∙ ap (λ t. given_by f n (cond t (x ∷ filter p xs) (filter p xs))) (sym e))))
        go true false e g rest =
            ap (λ t. filter p (cond t (x ∷ given_by f n xs) (given_by f n xs))) g
            ∙ (rest
            ∙ (ap (λ t. cond t (x ∷ given_by f n (filter p xs)) (given_by f n (filter p xs))) (sym g)
            ∙ ap (λ t. given_by f n (cond t (x ∷ filter p xs) (filter p xs))) (sym e)))
        go false true e g rest =
            ap (λ t. filter p (cond t (x ∷ given_by f n xs) (given_by f n xs))) g
            ∙ (ap (λ t. cond t (x ∷ filter p (given_by f n xs)) (filter p (given_by f n xs))) e
            ∙ (rest ∙ ap (λ t. given_by f n (cond t (x ∷ filter p xs) (filter p xs))) (sym e)))
        go false false e g rest =
            ap (λ t. filter p (cond t (x ∷ given_by f n xs) (given_by f n xs))) g
            ∙ (rest ∙ ap (λ t. given_by f n (cond t (x ∷ filter p xs) (filter p xs))) (sym e))

    fewer_below : (n : ℕ) (xs : List X) → filter p (ordered_below f n xs) ≡ ordered_below f n (filter p xs)
    fewer_below zero xs = refl
    fewer_below (suc n) xs =
        filter-append p (ordered_below f n xs) (given_by f n xs)
        ∙ (ap (λ ys. ys ++ filter p (given_by f n xs)) (fewer_below n xs)
        ∙ ap (λ ys. ordered_below f n (filter p xs) ++ ys) (fewer_given n xs))

    -- where it never falls among them they are in order as they stand
    pub fewer_ordered : (xs some : List X) → filter p xs ≡ some → Rises some → filter p (ordered_by f xs) ≡ some
    fewer_ordered xs some e r =
        fewer_below (end_by f xs) xs
        ∙ (ap (ordered_below f (end_by f xs)) e
        ∙ as_it_stands (end_by f xs) some r (subst (λ (ys : List X). end_by f ys ≤ end_by f xs) e (end_fewer xs)))

-- ---- what is made of each element, of which the same is given
module _ {X Y : Type 0} (f : X → ℕ) (g : Y → ℕ) (h : X → Y) (same : (x : X) → g (h x) ≡ f x) where
  end_made : (xs : List X) → end_by g (map h xs) ≡ end_by f xs
  end_made [] = refl
  end_made (x ∷ xs) = ap (λ n. max (suc n) (end_by g (map h xs))) (same x) ∙ ap (λ n. max (suc (f x)) n) (end_made xs)

  given_made : (n : ℕ) (xs : List X) → map h (given_by f n xs) ≡ given_by g n (map h xs)
  given_made n [] = refl
  given_made n (x ∷ xs) = go (f x == n) refl (given_made n xs)
    where
      go : (b : Bool) → (f x == n) ≡ b → map h (given_by f n xs) ≡ given_by g n (map h xs) → map h (cond b (x ∷ given_by f n xs) (given_by f n xs)) ≡ given_by g n (h x ∷ map h xs)
      go true e rest = ap (λ ys. h x ∷ ys) rest ∙ ap (λ b. cond b (h x ∷ given_by g n (map h xs)) (given_by g n (map h xs))) (sym (ap (λ k. k == n) (same x) ∙ e))
      go false e rest = rest ∙ ap (λ b. cond b (h x ∷ given_by g n (map h xs)) (given_by g n (map h xs))) (sym (ap (λ k. k == n) (same x) ∙ e))

  below_made : (n : ℕ) (xs : List X) → map h (ordered_below f n xs) ≡ ordered_below g n (map h xs)
  below_made zero xs = refl
  below_made (suc n) xs =
      map-append h (ordered_below f n xs) (given_by f n xs)
      ∙ (ap (λ ys. ys ++ map h (given_by f n xs)) (below_made n xs) ∙ ap (λ ys. ordered_below g n (map h xs) ++ ys) (given_made n xs))

  pub ordered_made : (xs : List X) → map h (ordered_by f xs) ≡ ordered_by g (map h xs)
  ordered_made xs = below_made (end_by f xs) xs ∙ ap (λ n. ordered_below g n (map h xs)) (sym (end_made xs))
