-- What is written behind what a buffer has.
use Rattle.std.proofs.Common.{◌≡◌, ℕ, ◌+◌, ◌≤◌, Option, None, Some, Result, List, ◌++◌, length, append_assoc, ap, ◌∙◌, arith}
use Rattle.std.specs.Prelude.{IfSome, IsOk}
use Rattle.std.specs.Int.{w16, w32, to_be_bytes}
use Rattle.rtt_base.specs.Buffers.{Appends}
use Rattle.wire_spec.specs.Dump.{record_written}

-- octets for which there is room are not refused
pub has_room : {T E : Type 0} (greatest : Option ℕ) (before after octets : List ℕ) (n : ℕ) (r : Result T E) → length octets ≡ n → Appends greatest before after octets r
    → IfSome greatest (λ most. length before + n ≤ most → IsOk r)
has_room None before after octets n r l a = tt
has_room (Some most) before after octets n r l a = λ m. a.room.1 (omega (arith, m, l))

-- the head of a record with a packet of so many octets
abbrev pub head_written : ℕ → ℕ → List ℕ
head_written at size = to_be_bytes w16 (size + 8) ++ (to_be_bytes w16 size ++ to_be_bytes w32 at)

-- the packet behind the head is the record
pub head_then_packet : (at : ℕ) (packet : List ℕ) → head_written at (length packet) ++ packet ≡ record_written (at, packet)
head_then_packet at packet =
    let size = to_be_bytes w16 (length packet) in
    append_assoc (to_be_bytes w16 (length packet + 8)) (size ++ to_be_bytes w32 at) packet
    ∙ ap (λ (xs : List ℕ). to_be_bytes w16 (length packet + 8) ++ xs) (append_assoc size (to_be_bytes w32 at) packet)

pub record_length : (at : ℕ) (packet : List ℕ) → length (record_written (at, packet)) ≡ 8 + length packet
record_length at packet = omega arith
