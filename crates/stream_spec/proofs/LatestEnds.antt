-- The latest end of numbers that follow one another.
use Rattle.std.proofs.Common.{◌≡◌, ℕ, zero, suc, ◌+◌, ◌<◌, ◌≤◌, inl, inr, List, refl, arith}
use Rattle.std.proofs.lemmas.Bool.{cases_lt}
use Rattle.stream_spec.specs.Numbering.{Numbered}
use Rattle.stream_spec.specs.Ready.{end_of, latest_end}

pub last_same : (wait : ℕ) (past past' : List Numbered) (lo k : ℕ) → ((n : ℕ) → lo ≤ n → n < lo + k → end_of wait past n ≡ end_of wait past' n) → latest_end wait past lo k ≡ latest_end wait past' lo k
last_same wait past past' lo zero f = refl
last_same wait past past' lo (suc k) f = rw (f (lo + k) (omega arith) (omega arith), last_same wait past past' lo k (λ n a b. f n a (omega arith))) refl

pub last_up : (wait : ℕ) (past : List Numbered) (lo k l : ℕ) → k ≤ l → latest_end wait past lo k ≤ latest_end wait past lo l
last_up wait past lo k zero h = let e : k ≡ 0 = omega arith in rw e (omega arith)
last_up wait past lo k (suc l) h = elim (cases_lt l k) [
  | inl lt ↦ let e : k ≡ suc l = omega arith in rw e (omega arith)
  | inr ge ↦ let r = last_up wait past lo k l ge in omega arith
]

pub last_has : (wait : ℕ) (past : List Numbered) (lo k n : ℕ) → lo ≤ n → n < lo + k → end_of wait past n ≤ latest_end wait past lo k
last_has wait past lo zero n a b = absurd (omega arith)
last_has wait past lo (suc k) n a b = elim (cases_lt n (lo + k)) [
  | inl lt ↦ let r = last_has wait past lo k n a lt in omega arith
  | inr ge ↦ let e : n ≡ lo + k = omega arith in rw e (omega arith)
]
