-- How far a reading of blocks has come (RFC 2198, section 3).
use Rattle.std.specs.Prelude.{ℕ, zero, suc, drop, ◌<◌, ◌^◌, List, [], ◌∷◌, ◌++◌, Result, Ok, Err, if◌then◌else◌}
use Rattle.std.specs.Str.{is_utf8}
use Rattle.std.specs.Borrow.{Bor}
use Rattle.rtt_base.specs.declared.blocks.TextBlock.{TextBlock}
use Rattle.wire_spec.specs.declared.headers.RedHeader.{RedHeader}
use Rattle.wire_spec.specs.declared.faults.RedFault.{RedFault}
use Rattle.wire_spec.specs.declared.faults.RedFault.TheVariants.{NotText}
use Rattle.rtt_base.specs.Steps.{◌>>=◌}
use Rattle.wire_spec.specs.Red.{Headers, header_of}

-- the length has ten bits
pub record IsSmall (h : RedHeader) : Type 0 where
  pub size : h.size < 2 ^ 10

-- so many redundant headers in a row
abbrev pub headers_of : ℕ → List ℕ → List RedHeader
headers_of zero octets = []
headers_of (suc n) octets = header_of octets ∷ headers_of n (drop 4 octets)

-- what was read of the headers: how many there are in these octets, how many octets their texts have, and what is behind
abbrev pub headers_view : List ℕ → ℕ × ℕ × Bor (List ℕ) → Headers
headers_view octets p = record { headers = headers_of p.0 octets; texts = p.2.now }

-- headers in front of others, as they were read
abbrev pub after_headers : List RedHeader → Result Headers RedFault → Result Headers RedFault
after_headers front read = read >>= λ hs. Ok (record { headers = front ++ hs.headers; texts = hs.texts })

-- blocks in front of others, as they were read
abbrev pub after_blocks : List TextBlock → Result (List TextBlock) RedFault → Result (List TextBlock) RedFault
after_blocks front read = read >>= λ blocks. Ok (front ++ blocks)

-- blocks and one more, where it is UTF-8
abbrev pub after_block : List TextBlock → ℕ → List ℕ → Result (List TextBlock) RedFault
after_block front offset text = if is_utf8 text then Ok (front ++ record { offset = offset; text = text } ∷ []) else Err NotText
