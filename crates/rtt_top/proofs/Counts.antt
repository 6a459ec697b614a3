-- A fault between two moments came between any two moments round them.
use Rattle.std.proofs.Common.{◌≡◌, ℕ, ◌≤◌, ◌<◌, inl, inr, arith}
use Rattle.std.specs.Prelude.{◌⊎◌}
use Rattle.std.proofs.Math.Nat.{eq-or-lt_of_le}
use Rattle.rtt_io.specs.Counts.{Rose, last_count}

pub rose_since : (old a new : ℕ) → old ≤ a → Rose a new → Rose old new
rose_since old a new h (inl r) = inl (omega arith)
rose_since old a new h (inr r) = inr r

rose_by : (old a new : ℕ) → a ≡ last_count → old ≤ a → a ≤ new → (old ≡ new) ⊎ (old < new) → Rose old new
rose_by old a new e h k (inl same) = inr (omega arith)
rose_by old a new e h k (inr less) = inl less

pub rose_before : (old a new : ℕ) → old ≤ a → Rose old a → a ≤ new → Rose old new
rose_before old a new h (inl r) k = inl (omega arith)
rose_before old a new h (inr e) k = let within : old ≤ new = omega arith in rose_by old a new e h k (eq-or-lt_of_le within)
