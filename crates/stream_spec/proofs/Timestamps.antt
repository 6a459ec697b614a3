-- Numbers and timestamps against places and media times.
use Rattle.std.proofs.Common.{◌≡◌, ℕ, ◌+◌, ◌%◌, ◌^◌, ◌<◌, ◌≤◌, inl, inr, arith}
use Rattle.std.specs.Prelude.{nat_lt}
use Rattle.std.proofs.lemmas.Bool.Decides.{nat_tests}
use Rattle.std.proofs.lemmas.Bool.{cases_order}
use Rattle.wire_spec.specs.Packets.{back}
use Rattle.rtt_base.specs.Timestamps.{is_after}
use Rattle.stream_spec.specs.Numbering.{nearest, distance}

-- `nearest` is congruent, and near
pub nearest_mod : (top seq : ℕ) → seq < 65536 → nearest top seq % 65536 ≡ seq
nearest_mod top seq h = omega arith

pub nearest_low : (top seq : ℕ) → 65536 ≤ top → top ≤ nearest top seq + 32768
nearest_low top seq h = omega arith

pub nearest_high : (top seq : ℕ) → 65536 ≤ top → nearest top seq ≤ top + 32767
nearest_high top seq h = omega arith

-- the number of place k, where the greatest so far has place j
pub nearest_place : (first p d j k top seq : ℕ) → 65536 ≤ top → d % 65536 ≡ (first + p) % 65536 → top + p ≡ j + d
    → seq ≡ (first + k) % 65536 → k ≤ j + 32767 → j ≤ k + 32767 → nearest top seq + p ≡ k + d
nearest_place first p d j k top seq big hd ht hs up down = omega arith

-- a block offset before the timestamp of m is after that of n exactly where n and the offset lie below m
pub after_back : (base m n offset : ℕ) → m < n + 2 ^ 31 → n < m + 2 ^ 31 → offset < 2 ^ 31
    → n ≤ m → is_after (back ((base + m) % 2 ^ 32) offset) ((base + n) % 2 ^ 32) ≡ nat_lt (n + offset) m
after_back base m n offset a b o c = grind (arith, nat_tests)

-- congruent numbers are one or lie 65536 apart
apart : (m n seq : ℕ) → m % 65536 ≡ seq → n % 65536 ≡ seq → m < n → m + 65536 ≤ n
apart m n seq a b l = omega arith

pub nearest_is : (top seq n : ℕ) → 65536 ≤ top → seq < 65536 → n % 65536 ≡ seq → distance (nearest top seq) top ≤ distance n top
nearest_is top seq n big small e = go (nearest top seq) (nearest_mod top seq small) (nearest_low top seq big) (nearest_high top seq big)
  where
    go : (r : ℕ) → r % 65536 ≡ seq → top ≤ r + 32768 → r ≤ top + 32767 → distance r top ≤ distance n top
    go r m low high = elim (cases_order r n) [
      | inl q ↦ rw q (omega arith)
      | inr (inl lt) ↦ let a = apart r n seq m e lt in omega arith
      | inr (inr gt) ↦ let a = apart n r seq e m gt in omega arith
    ]

pub lower_is : (top seq n : ℕ) → 65536 ≤ top → seq < 65536 → n % 65536 ≡ seq → n < nearest top seq → distance (nearest top seq) top < distance n top
lower_is top seq n big small e l = go (nearest top seq) (nearest_mod top seq small) (nearest_low top seq big) (nearest_high top seq big) l
  where
    go : (r : ℕ) → r % 65536 ≡ seq → top ≤ r + 32768 → r ≤ top + 32767 → n < r → distance r top < distance n top
    go r m low high lt = let a = apart n r seq e m lt in omega arith
