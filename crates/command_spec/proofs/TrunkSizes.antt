-- A split fits into an input of a leg.
use Rattle.std.proofs.Common.{◌*◌, ◌≤◌, ℕ, cond, List, length, arith}
use Rattle.std.specs.Prelude.{nat_lt}
use Rattle.file_spec.specs.Conference.{Conference}
use Rattle.mixer_spec.specs.Bridged.{input_limit}
use Rattle.command_spec.specs.Laws.{split_of}
use Rattle.command_spec.proofs.SplitSizes.{split_fits}
use Rattle.command_spec.specs.Cascading.{trunk_limit, trunk_of}
use Rattle.command_spec.proofs.CascadeOutputs.{by_bool}

-- an input may have at least twice the octets of the recording
twice : (c : Conference) (n : ℕ) → n ≤ 2 * trunk_limit c → n ≤ input_limit c
twice c n = by_bool (λ b. n ≤ 2 * cond b 524288 2097152 → n ≤ cond b 1048576 4194304) (nat_lt 16 (length c.legs)) (λ t l. omega (arith, l)) (λ f l. omega (arith, l))

limit_some : (c : Conference) → 22 ≤ trunk_limit c
limit_some c = by_bool (λ b. 22 ≤ cond b 524288 2097152) (nat_lt 16 (length c.legs)) (λ t. omega arith) (λ f. omega arith)

pub input_fits : (c : Conference) (ssrc : ℕ) (octets : List ℕ) (s : ℕ) → length (split_of (trunk_of c ssrc) octets s) ≤ input_limit c
input_fits c ssrc octets s = twice c (length (split_of (trunk_of c ssrc) octets s)) (split_fits (trunk_of c ssrc) octets s (limit_some c))
