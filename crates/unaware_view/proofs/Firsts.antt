-- The first number that passes a test.
use Rattle.std.proofs.Common.{◌≡◌, ℕ, zero, suc, ◌+◌, ◌-◌, ◌<◌, ◌≤◌, Bool, true, false, cond, ◌||◌, inl, inr, Some, None, refl, sym, ap, ◌∙◌, arith}
use Rattle.std.specs.Option.{option_or}
use Rattle.std.proofs.lemmas.Bool.{cases_eq}
use Rattle.mixer_spec.specs.Rounds.{any_below, first_from, first_round}

pub first_here : (p : ℕ → Bool) (i high : ℕ) → i < high → p i ≡ true → first_from p i (high - i) ≡ Some i
first_here p i high l e =
    let n : high - i ≡ suc (high - suc i) = omega arith in
    ap (first_from p i) n ∙ ap (λ (b : Bool). cond b (Some i) (first_from p (suc i) (high - suc i))) e

pub first_later : (p : ℕ → Bool) (i high : ℕ) → i < high → p i ≡ false → first_from p i (high - i) ≡ first_from p (i + 1) (high - (i + 1))
first_later p i high l e =
    let n : high - i ≡ suc (high - suc i) = omega arith in
    let m : suc i ≡ i + 1 = omega arith in
    ap (first_from p i) n ∙ (ap (λ (b : Bool). cond b (Some i) (first_from p (suc i) (high - suc i))) e ∙ ap (λ (k : ℕ). first_from p k (high - k)) m)

pub first_none : (p : ℕ → Bool) (high : ℕ) → first_from p high (high - high) ≡ None
first_none p high = let n : high - high ≡ 0 = omega arith in ap (first_from p high) n

-- ---- whether there is one
-- one of the numbers below n passes
pub any_here : (p : ℕ → Bool) (n i : ℕ) → i < n → p i ≡ true → any_below p n ≡ true
any_here p zero i l e = absurd (omega (arith, l))
any_here p (suc n) i l e = elim (cases_eq i n) [
  | inl q ↦ ap (λ (b : Bool). b || any_below p n) (ap p (sym q) ∙ e)
  | inr m ↦ later (p n) (any_here p n i (omega (arith, l, m)) e)
]
  where
    later : (b : Bool) → any_below p n ≡ true → (b || any_below p n) ≡ true
    later true h = refl
    later false h = h

-- none of one number more passes
pub any_next : (p : ℕ → Bool) (i : ℕ) → any_below p i ≡ false → p i ≡ false → any_below p (i + 1) ≡ false
any_next p i h e = let m : i + 1 ≡ suc i = omega arith in ap (any_below p) m ∙ (ap (λ (b : Bool). b || any_below p i) e ∙ h)

-- ---- tests that agree on the numbers below a bound
pub any_same : (p q : ℕ → Bool) (n : ℕ) → ((i : ℕ) → i < n → p i ≡ q i) → any_below p n ≡ any_below q n
any_same p q zero f = refl
any_same p q (suc n) f = λ r. f n (omega arith) r || any_same p q n (λ i l. f i (omega (arith, l))) r

from_same : (p q : ℕ → Bool) (low n bound : ℕ) → low + n ≤ bound → ((i : ℕ) → i < bound → p i ≡ q i) → first_from p low n ≡ first_from q low n
from_same p q low zero bound l f = refl
from_same p q low (suc n) bound l f = λ r. cond (f low (omega (arith, l)) r) (Some low) (from_same p q (suc low) n bound (omega (arith, l)) f r)

pub round_same : (p q : ℕ → Bool) (start n : ℕ) → start ≤ n → ((i : ℕ) → i < n → p i ≡ q i) → first_round p start n ≡ first_round q start n
round_same p q start n l f = λ r. option_or (from_same p q start (n - start) n (omega (arith, l)) f r) (from_same p q 0 start n (omega (arith, l)) f r)
