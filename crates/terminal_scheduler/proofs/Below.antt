-- Tests of all numbers below one, and of nothing that was sent.
use Rattle.std.proofs.Common.{◌≡◌, ℕ, zero, suc, ◌+◌, ◌<◌, inl, inr, Bool, true, false, refl, ap, sym, ◌∙◌, add-one, arith}
use Rattle.std.proofs.lemmas.Bool.{cases_eq, and_left, and_right}
use Rattle.mixer_spec.specs.Rounds.{all_below}

pub fails_at : (p : ℕ → Bool) (n i : ℕ) → i < n → p i ≡ false → all_below p n ≡ false
fails_at p zero i l e = absurd (omega arith)
fails_at p (suc n) i l e = elim (cases_eq i n) [
  | inl q ↦ and_left (p n) (all_below p n) (ap p (sym q) ∙ e)
  | inr m ↦ and_right (p n) (all_below p n) (fails_at p n i (omega (arith, l, m)) e)
]

pub all_more : (p : ℕ → Bool) (n : ℕ) → all_below p n ≡ true → p n ≡ true → all_below p (n + 1) ≡ true
all_more p n a e = rw (add-one, a, e) refl
