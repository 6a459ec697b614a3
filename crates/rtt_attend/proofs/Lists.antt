-- Lists that are gone through from the front.
use Rattle.std.proofs.Common.{◌≡◌, ℕ, zero, suc, ◌+◌, Some, List, [], ◌∷◌, drop, subst, arith}
use Rattle.std.specs.Prelude.{slice_get}

-- what comes next has the next number
pub next_of : {X : Type 0} (xs rest : List X) (k : ℕ) (x : X) → drop k xs ≡ x ∷ rest → slice_get xs k ≡ Some x
next_of [] rest zero x e = absurd (cc e)
next_of [] rest (suc k) x e = absurd (cc e)
next_of (y ∷ xs) rest zero x e = cc e
next_of (y ∷ xs) rest (suc k) x e = next_of xs rest k x e

-- and the others stand behind it
pub rest_of : {X : Type 0} (xs rest : List X) (k : ℕ) (x : X) → drop k xs ≡ x ∷ rest → drop (suc k) xs ≡ rest
rest_of [] rest zero x e = absurd (cc e)
rest_of [] rest (suc k) x e = absurd (cc e)
rest_of (y ∷ xs) rest zero x e = cc e
rest_of (y ∷ xs) rest (suc k) x e = rest_of xs rest k x e

-- what stands in a rest stands in the whole
pub in_rest : {X : Type 0} (xs : List X) (k j : ℕ) (x : X) → slice_get (drop k xs) j ≡ Some x → slice_get xs (k + j) ≡ Some x
in_rest xs zero j x e = let none : j ≡ 0 + j = omega arith in subst (λ (n : ℕ). slice_get xs n ≡ Some x) none e
in_rest [] (suc k) j x e = absurd (cc e)
in_rest (y ∷ xs) (suc k) j x e = let more : suc (k + j) ≡ suc k + j = omega arith in subst (λ (n : ℕ). slice_get (y ∷ xs) n ≡ Some x) more (in_rest xs k j x e)
