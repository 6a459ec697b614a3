-- How long numbers are in print, and what room a line has for them.
use Rattle.std.proofs.Common.{◌≡◌, ℕ, ◌+◌, ◌<◌, ◌≤◌, ◌^◌, List, length, drop, ap, arith, lit<, length-drop}
use Rattle.std.specs.Fmt.{decimal}
use Rattle.std.proofs.lemmas.Fmt.{length-decimal-le}

pub digits_of_word : (n : ℕ) → n < 2 ^ 32 → length (decimal n) ≤ 10
digits_of_word n h = length-decimal-le 10 n (lit< tt) (omega (arith, h)) (omega (arith, h))

-- where a line starts
pub start_of : (octets line : List ℕ) (start : ℕ) → length octets ≡ 256 → drop start octets ≡ line → start ≤ 256 → start + length line ≡ 256
start_of octets line start all is within = omega (arith, length-drop start octets, ap length is, all, within)
