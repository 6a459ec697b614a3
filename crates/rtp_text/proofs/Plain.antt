-- Facts of packets that more than one crate cites.
use Rattle.rtp_text.specs.Reading.{headers_of}
use Rattle.rtp_text.specs.Views.{older_at}
use Rattle.std.proofs.Common.{List, ap, drop, length, refl, suc, zero, ℕ, ◌≡◌}
use Rattle.wire_spec.specs.Red.{header_of}

pub older_count : (n : ℕ) (heads octets : List ℕ) → length (older_at (headers_of n heads) octets) ≡ n
older_count zero heads octets = refl
older_count (suc n) heads octets = ap suc (older_count n (drop 4 heads) (drop (header_of heads).size octets))
