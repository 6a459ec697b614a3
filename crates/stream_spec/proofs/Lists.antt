-- Members of lists.
use Rattle.std.proofs.Common.{◌≡◌, ℕ, ◌≤◌, Bool, true, false, cond, ◌⊎◌, inl, inr, List, [], ◌∷◌, ◌++◌, refl, ap, sym, ◌∙◌, arith}
use Rattle.std.specs.Prelude.{filter, map, nat_lt}
use Rattle.std.specs.List.{list_any}
use Rattle.std.proofs.lemmas.Bool.{true≢false, or_cases, or_left, or_right, ltb-true, ltb-false, le-ltb}
use Rattle.stream_spec.specs.Lists.{In, RisingBy, put_by}

pub in_left : {X : Type 0} (x : X) (xs ys : List X) → In x xs → In x (xs ++ ys)
in_left x [] ys i = absurd i
in_left x (z ∷ xs) ys (inl p) = inl p
in_left x (z ∷ xs) ys (inr i) = inr (in_left x xs ys i)

pub in_right : {X : Type 0} (x : X) (xs ys : List X) → In x ys → In x (xs ++ ys)
in_right x [] ys i = i
in_right x (z ∷ xs) ys i = inr (in_right x xs ys i)

pub in_append : {X : Type 0} (x : X) (xs ys : List X) → In x (xs ++ ys) → In x xs ⊎ In x ys
in_append x [] ys i = inr i
in_append x (z ∷ xs) ys (inl p) = inl (inl p)
in_append x (z ∷ xs) ys (inr i) = elim (in_append x xs ys i) [ inl j ↦ inl (inr j) | inr j ↦ inr j ]

pub in_filter : {X : Type 0} (p : X → Bool) (x : X) (xs : List X) → In x (filter p xs) → In x xs × (p x ≡ true)
in_filter p x [] i = absurd i
in_filter p x (z ∷ xs) i = go (p z) refl (in_filter p x xs) i
  where
    go : (b : Bool) → p z ≡ b → (In x (filter p xs) → In x xs × (p x ≡ true)) → In x (cond b (z ∷ filter p xs) (filter p xs)) → In x (z ∷ xs) × (p x ≡ true)
    go true e f (inl q) = (inl q, ap p q ∙ e)
    go true e f (inr j) = let r = f j in (inr r.0, r.1)
    go false e f j = let r = f j in (inr r.0, r.1)

pub filter_in : {X : Type 0} (p : X → Bool) (x : X) (xs : List X) → In x xs → p x ≡ true → In x (filter p xs)
filter_in p x [] i h = absurd i
filter_in p x (z ∷ xs) (inl q) h = rw (sym (ap p q) ∙ h) (inl q)
filter_in p x (z ∷ xs) (inr i) h = go (p z) (filter_in p x xs i h)
  where
    go : (b : Bool) → In x (filter p xs) → In x (cond b (z ∷ filter p xs) (filter p xs))
    go true j = inr j
    go false j = j

pub in_when : {X : Type 0} (b : Bool) (x y : X) → In x (cond b (y ∷ []) []) → (b ≡ true) × (x ≡ y)
in_when true x y (inl p) = (refl, p)
in_when true x y (inr i) = absurd i
in_when false x y i = absurd i

pub when_in : {X : Type 0} (b : Bool) (x y : X) → b ≡ true → x ≡ y → In x (cond b (y ∷ []) [])
when_in true x y e p = inl p
when_in false x y e p = absurd (true≢false (sym e))

-- ---- tests on lists
pub any_in : {X : Type 0} (p : X → Bool) (xs : List X) → list_any p xs ≡ true → (x : X) × In x xs × (p x ≡ true)
any_in p [] h = absurd (true≢false (sym h))
any_in p (y ∷ xs) h = elim (or_cases (p y) (list_any p xs) h) [ inl t ↦ (y, inl refl, t) | inr t ↦ let r = any_in p xs t in (r.0, inr r.1, r.2) ]

pub in_any : {X : Type 0} (p : X → Bool) (xs : List X) (x : X) → In x xs → p x ≡ true → list_any p xs ≡ true
in_any p [] x i h = absurd i
in_any p (y ∷ xs) x (inl e) h = or_left (p y) (list_any p xs) (sym (ap p e) ∙ h)
in_any p (y ∷ xs) x (inr i) h = or_right (p y) (list_any p xs) (in_any p xs x i h)

pub map_same : {X Y : Type 0} (f g : X → Y) (xs : List X) → ((x : X) → In x xs → f x ≡ g x) → map f xs ≡ map g xs
map_same f g [] e = refl
map_same f g (x ∷ xs) e = ap (λ y. y ∷ map f xs) (e x (inl refl)) ∙ ap (λ ys. g x ∷ ys) (map_same f g xs (λ y i. e y (inr i)))

-- what holds of a list and goes on element by element holds of those that pass
pub filter_keeps : {X : Type 0} (P : List X → Type 0) → P [] → ((x : X) (xs : List X) → P (x ∷ xs) → P xs) → ((x : X) (xs ys : List X) → P (x ∷ xs) → P ys → P (x ∷ ys)) → (p : X → Bool) (xs : List X) → P xs → P (filter p xs)
filter_keeps P none tail again p [] a = none
filter_keeps P none tail again p (x ∷ xs) a = go (p x) (filter_keeps P none tail again p xs (tail x xs a))
  where
    go : (b : Bool) → P (filter p xs) → P (cond b (x ∷ filter p xs) (filter p xs))
    go true more = again x xs (filter p xs) a more
    go false more = more

-- ---- one more among those that rise in what f gives
pub in_put : {X : Type 0} (f : X → ℕ) (x y : X) (xs : List X) → In y (put_by f x xs) → (y ≡ x) ⊎ In y xs
in_put f x y [] (inl e) = inl e
in_put f x y [] (inr i) = absurd i
in_put f x y (z ∷ xs) i = go (nat_lt (f x) (f z)) (in_put f x y xs) i
  where
    go : (t : Bool) → (In y (put_by f x xs) → (y ≡ x) ⊎ In y xs) → In y (cond t (x ∷ z ∷ xs) (z ∷ put_by f x xs)) → (y ≡ x) ⊎ In y (z ∷ xs)
    go true h (inl e) = inl e
    go true h (inr j) = inr j
    go false h (inl e) = inr (inl e)
    go false h (inr j) = elim (h j) [ inl e ↦ inl e | inr k ↦ inr (inr k) ]

pub rising_with : {X : Type 0} (f : X → ℕ) (x : X) (xs : List X) → RisingBy f xs → ((y : X) → In y xs → f y ≡ f x → ⊥) → RisingBy f (put_by f x xs)
rising_with f x [] r n = ((λ y i. absurd i), tt)
rising_with f x (z ∷ xs) r n = go (nat_lt (f x) (f z)) refl (rising_with f x xs r.1 (λ y i. n y (inr i)))
  where
    go : (t : Bool) → nat_lt (f x) (f z) ≡ t → RisingBy f (put_by f x xs) → RisingBy f (cond t (x ∷ z ∷ xs) (z ∷ put_by f x xs))
    go true e q = let l = ltb-true (f x) (f z) e in ((λ y i. elim i [ inl s ↦ omega (arith, ap f s) | inr j ↦ let u = r.0 y j in omega arith ]), (r.0, r.1))
    go false e q = let g = ltb-false (f x) (f z) e in
        ((λ y i. elim (in_put f x y xs i) [ inl s ↦ let d = n z (inl refl) in omega (arith, ap f s) | inr j ↦ r.0 y j ]), q)

-- it may be changed before or after, where that leaves what f gives
pub put_map : {X : Type 0} (f : X → ℕ) (g : X → X) → ((x : X) → f (g x) ≡ f x) → (x : X) (xs : List X) → put_by f (g x) (map g xs) ≡ map g (put_by f x xs)
put_map f g same x [] = refl
put_map f g same x (z ∷ xs) = (λ i. cond (nat_lt (same x i) (same z i)) (g x ∷ g z ∷ map g xs) (g z ∷ put_by f (g x) (map g xs))) ∙ go (nat_lt (f x) (f z)) (put_map f g same x xs)
  where
    go : (b : Bool) → put_by f (g x) (map g xs) ≡ map g (put_by f x xs) → cond b (g x ∷ g z ∷ map g xs) (g z ∷ put_by f (g x) (map g xs)) ≡ map g (cond b (x ∷ z ∷ xs) (z ∷ put_by f x xs))
    go true e = refl
    go false e = ap (λ ys. g z ∷ ys) e

-- they begin with n
abbrev pub HeadedBy : {X : Type 0} → (X → ℕ) → ℕ → List X → Type 0
HeadedBy f n [] = ⊥
HeadedBy f n (x ∷ xs) = f x ≡ n

pub headed_with : {X : Type 0} (f : X → ℕ) (n : ℕ) (x : X) (xs : List X) → HeadedBy f n xs → n ≤ f x → HeadedBy f n (put_by f x xs)
headed_with f n x [] h l = absurd h
headed_with f n x (z ∷ xs) h l = rw (le-ltb (f x) (f z) (omega (arith, h, l))) h
