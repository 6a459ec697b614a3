-- Counts of faults (profile): a count never falls, and one that has come to the last value of 64 bits stays there.
use Rattle.std.specs.Prelude.{ℕ, ◌+◌, ◌-◌, ◌^◌, ◌<◌, ◌≤◌, ◌≡◌, ◌≢◌, ◌⊎◌, min}

-- the last value that a count can have
abbrev pub last_count : ℕ
last_count = 2 ^ 64 - 1

-- a fault came between these two values of a count: it rose, or stands at its last value
abbrev pub Rose : ℕ → ℕ → Type 0
Rose old new = (old < new) ⊎ (new ≡ last_count)

-- a count after so many more faults
abbrev pub counted : ℕ → ℕ → ℕ
counted count more = min last_count (count + more)

-- so many more faults of a key came between these counts of all keys; where the key has a count of its own (is there), no other's
-- changes
pub record AddsCount {K : Type 0} (there : Type 0) (key : K) (more : ℕ) (old new : K → ℕ) : Type 0 where
  pub added : new key ≡ counted (old key) more
  pub rose : more ≡ 1 → Rose (old key) (new key)
  pub calm : more ≡ 0 → (k : K) → new k ≡ old k
  pub never_falls : (k : K) → old k ≤ new k
  pub no_other : there → (k : K) → k ≢ key → new k ≡ old k
