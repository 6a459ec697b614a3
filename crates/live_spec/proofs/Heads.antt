-- The head of a file is read, and its clock.
use Rattle.std.proofs.Common.{◌≡◌, ℕ, ◌+◌, ◌-◌, ◌*◌, ◌/◌, ◌%◌, ◌^◌, ◌<◌, ltb, false, List, ◌∷◌, ◌++◌, length, drop, Some, Ok, refl, ap, ◌∙◌, arith}
use Rattle.std.specs.Int.{w16, w32, to_be_bytes, from_be_bytes}
use Rattle.std.proofs.lemmas.Bool.{le-ltb}
use Rattle.std.proofs.lemmas.Nat.{from_be_bytes-to_be_bytes_4}
use Rattle.wire_spec.specs.Dump.{opening}
use Rattle.report_spec.specs.Times.{start_in, start_of}
use Rattle.live_spec.specs.Recorded.{head_written}

-- the head behind its line
abbrev head_octets : ℕ → List ℕ
head_octets t = to_be_bytes w32 (t / 1000) ++ (to_be_bytes w32 (t % 1000 * 1000) ++ (127 ∷ 0 ∷ 0 ∷ 1 ∷ (to_be_bytes w16 5004 ++ to_be_bytes w16 0)))

long : (t : ℕ) (rest : List ℕ) → ltb (length (head_octets t ++ rest)) 16 ≡ false
long t rest = le-ltb (length (head_octets t ++ rest)) 16 (omega arith)

pub opened : (t : ℕ) (rest : List ℕ) → opening (head_written t ++ rest) ≡ Ok (record { byte = 44; rest = rest })
unfolding opening
opened t rest =
    let byte : length (head_written t ++ rest) - length (head_octets t ++ rest) ≡ 28 = omega arith in
    rw (byte, long t rest) refl

clock : (t : ℕ) → 1000 * (t / 1000) + t % 1000 * 1000 / 1000 ≡ t
clock t = omega arith

-- the wall clock is the head's
pub started : (t : ℕ) (rest : List ℕ) → t < 1000 * 2 ^ 32 → start_of (head_written t ++ rest) ≡ Some t
unfolding start_of
started t rest small =
    let more : List ℕ = head_octets t ++ rest in
    let seconds : from_be_bytes w32 more ≡ t / 1000 = from_be_bytes-to_be_bytes_4 (t / 1000) (omega (arith, small)) in
    let micros : from_be_bytes w32 (drop 4 more) ≡ t % 1000 * 1000 = from_be_bytes-to_be_bytes_4 (t % 1000 * 1000) (omega arith) in
    let same : start_in more ≡ t =
    ap (λ (a : ℕ). 1000 * a + from_be_bytes w32 (drop 4 more) / 1000) seconds
    ∙ ap (λ (b : ℕ). 1000 * (t / 1000) + b / 1000) micros
    ∙ clock t in
    rw (long t rest) (ap Some same)
