-- Elements of lists, and functions that are changed at one place.
use Rattle.std.proofs.Common.{◌≡◌, ◌<◌, ◌≤◌, ℕ, zero, suc, Some, List, [], ◌∷◌, ◌++◌, length, get_or, set, refl, ap, sym, ◌∙◌, inl, inr, ◌⊎◌, arith}
use Rattle.std.specs.Prelude.{slice_get}
use Rattle.std.proofs.lemmas.Bool.{cases_eq}
use Rattle.std.proofs.lemmas.Bool.Decides.{leb_tells}
use Rattle.mixer_spec.specs.Rounds.{set_at}
use Rattle.mixer_spec.proofs.Lists.{set_same, set_other}
use Rattle.wire_spec.proofs.Plain.{funext}

pub lt_or_ge : (a b : ℕ) → (a < b) ⊎ (b ≤ a)
lt_or_ge a b = elim (leb_tells b a) [ inl t ↦ inr t.1 | inr t ↦ inl t.1 ]

-- what is read at an index is there
pub get_there : {X : Type 0} (xs : List X) (i : ℕ) (x : X) → i < length xs → slice_get xs i ≡ Some (get_or xs i x)
get_there [] i x low = absurd (omega arith)
get_there (y ∷ xs) zero x low = refl
get_there (y ∷ xs) (suc i) x low = get_there xs i x (omega arith)

pub get_within : {X : Type 0} (xs : List X) (i : ℕ) (x : X) → slice_get xs i ≡ Some x → i < length xs
get_within [] i x e = absurd (cc e)
get_within (y ∷ xs) zero x e = omega arith
get_within (y ∷ xs) (suc i) x e = let r = get_within xs i x e in omega arith

pub get_set_other : {X : Type 0} (xs : List X) (i : ℕ) (x : X) (j : ℕ) → (j ≡ i → ⊥) → slice_get (set xs i x) j ≡ slice_get xs j
get_set_other [] i x j n = refl
get_set_other (y ∷ xs) zero x zero n = absurd (n refl)
get_set_other (y ∷ xs) zero x (suc j) n = refl
get_set_other (y ∷ xs) (suc i) x zero n = refl
get_set_other (y ∷ xs) (suc i) x (suc j) n = get_set_other xs i x j (λ e. n (ap suc e))

-- a function that is given what it has already
pub set_still : {X : Type 0} (f : ℕ → X) (i : ℕ) (x : X) → f i ≡ x → set_at f i x ≡ f
set_still f i x e = funext (set_at f i x) f (λ k. elim (cases_eq k i) [
  | inl same ↦ set_same f i x k same ∙ (sym e ∙ ap f (sym same))
  | inr other ↦ set_other f i x k other
])

-- an element of a list, or the one behind it
pub get_push : {X : Type 0} (xs : List X) (x y : X) (j : ℕ) → slice_get (xs ++ x ∷ []) j ≡ Some y → (slice_get xs j ≡ Some y) ⊎ ((j ≡ length xs) × (x ≡ y))
get_push [] x y zero e = inr (refl, cc e)
get_push [] x y (suc j) e = absurd (cc e)
get_push (z ∷ xs) x y zero e = inl e
get_push (z ∷ xs) x y (suc j) e = elim (get_push xs x y j e) [ inl g ↦ inl g | inr p ↦ inr (ap suc p.0, p.1) ]
