-- Lines by their numbers.
use Rattle.std.proofs.Common.{◌≡◌, ℕ, zero, suc, ◌-◌, List, ◌∷◌, refl, ap, arith}
use Rattle.report_spec.specs.Checking.{line_at}

-- the line behind the first one
pub behind_first : (n : ℕ) (line : List ℕ) (more : List (List ℕ)) → (n ≡ 0 → ⊥) → (n ≡ 1 → ⊥) → line_at n (line ∷ more) ≡ line_at (n - 1) more
behind_first zero line more none one = absurd (none refl)
behind_first (suc zero) line more none one = absurd (one refl)
behind_first (suc (suc n)) line more none one = ap (λ k. line_at k more) (let e : suc n ≡ suc (suc n) - 1 = omega arith in e)
