-- One more flag, and one more moment.
use Rattle.std.proofs.Common.{◌≡◌, ℕ, ◌+◌, ◌<◌, ◌≤◌, inl, inr, List, length, sym, ap, ◌∙◌, arith}
use Rattle.std.specs.Prelude.{slice_set, slice_index_or}
use Rattle.std.proofs.Math.Seq.{get_or-set_same, get_or-set_other}
use Rattle.std.proofs.lemmas.Bool.{cases_eq}

pub flag_step : {X : Type 0} (xs : List X) (i : ℕ) (v d : X) (f : ℕ → X) → i < length xs → ((k : ℕ) → k < i → slice_index_or xs k d ≡ f k) → v ≡ f i
    → (k : ℕ) → k < i + 1 → slice_index_or (slice_set xs i v) k d ≡ f k
flag_step xs i v d f l h e k b = elim (cases_eq k i) [
  | inl q ↦ ap (λ (x : ℕ). slice_index_or (slice_set xs i v) x d) q ∙ (get_or-set_same xs i v d l ∙ (e ∙ ap f (sym q)))
  | inr n ↦ get_or-set_other xs i k v d n ∙ h k (omega (arith, n, b))
]

pub flag_rest : {X : Type 0} (xs : List X) (i : ℕ) (v d : X) (f : ℕ → X) → ((k : ℕ) → i ≤ k → slice_index_or xs k d ≡ f k) → (k : ℕ) → i + 1 ≤ k → slice_index_or (slice_set xs i v) k d ≡ f k
flag_rest xs i v d f h k b = get_or-set_other xs i k v d (λ q. omega (arith, q, b)) ∙ h k (omega (arith, b))
