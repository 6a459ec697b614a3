-- Elements that are taken from the back of a list, one by one.
use Rattle.std.proofs.Common.{◌≡◌, ℕ, zero, suc, ◌<◌, ◌⊎◌, inl, inr, Option, None, Some, List, [], ◌∷◌, ◌++◌, length, refl, subst, sym, arith}
use Rattle.std.specs.Prelude.{IsSome, slice_get}
use Rattle.mix_loop.proofs.Lists.{get_within}
use Rattle.stream_spec.proofs.Plain.{get_push as pushed}

get_front : {X : Type 0} (xs : List X) (y : X) (j : ℕ) (x : X) → slice_get xs j ≡ Some x → slice_get (xs ++ y ∷ []) j ≡ Some x
get_front [] y j x e = absurd (cc e)
get_front (z ∷ xs) y zero x e = e
get_front (z ∷ xs) y (suc j) x e = get_front xs y j x e

get_last : {X : Type 0} (xs : List X) (y : X) → slice_get (xs ++ y ∷ []) (length xs) ≡ Some y
get_last [] y = refl
get_last (z ∷ xs) y = get_last xs y

-- one was taken from the back of a front of all
module _ {X : Type 0} (all now xs : List X) (x : X) (is : now ≡ xs ++ x ∷ []) where
  pub front_still : ((j : ℕ) (p : X) → slice_get now j ≡ Some p → slice_get all j ≡ Some p) → (j : ℕ) (p : X) → slice_get xs j ≡ Some p → slice_get all j ≡ Some p
  front_still front j p e = front j p (subst (λ (l : List X). slice_get l j ≡ Some p) (sym is) (get_front xs x j p e))

  pub last_of_all : ((j : ℕ) (p : X) → slice_get now j ≡ Some p → slice_get all j ≡ Some p) → slice_get all (length xs) ≡ Some x
  last_of_all front = front (length xs) x (subst (λ (l : List X). slice_get l (length xs) ≡ Some x) (sym is) (get_last xs x))

  -- what was there is among those that are left, or is the one that was taken
  pub left_or_last : (j : ℕ) (p : X) → slice_get now j ≡ Some p → (slice_get xs j ≡ Some p) ⊎ (p ≡ x)
  left_or_last j p e = elim (pushed xs x j p (subst (λ (l : List X). slice_get l j ≡ Some p) is e)) [ inl f ↦ inl f | inr q ↦ inr q.1 ]

-- behind the last one nothing is left
pub nothing_left : {X : Type 0} (xs : List X) (n : ℕ) (last : Option X) → n ≡ length xs → (0 < n → IsSome last) → last ≡ None → (j : ℕ) (x : X) → slice_get xs j ≡ Some x → ⊥
nothing_left xs n last len some none j x at =
    let low = get_within xs j x at in
    let there : IsSome last = some (omega (arith, low, len)) in
    cc (subst (λ (o : Option _). IsSome o) none there)

-- so what holds of each that is left or is done holds of each that is done
pub all_done : {X P : Type 0} (xs : List X) (n : ℕ) (last : Option X) → n ≡ length xs → (0 < n → IsSome last) → last ≡ None → (j : ℕ) (x : X) → (slice_get xs j ≡ Some x) ⊎ P → P
all_done xs n last len some none j x (inl at) = absurd (nothing_left xs n last len some none j x at)
all_done xs n last len some none j x (inr done) = done
