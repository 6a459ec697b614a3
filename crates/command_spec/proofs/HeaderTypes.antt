-- The payload type in a header that is read.
use Rattle.std.proofs.Common.{◌≡◌, ℕ, ◌*◌, ◌%◌, ◌/◌, Bool, true, false, cond, List, length, drop, ap, sym}
use Rattle.std.specs.Prelude.{Ok, Err, ◌==◌, nat_lt, slice_index, Result}
use Rattle.rtt_base.proofs.Steps.{bind_ok}
use Rattle.wire_spec.specs.declared.faults.RtpFault.TheVariants as rtp_faults
use Rattle.wire_spec.specs.Rtp.{Reading, rtp, rtp_of_header, past, past_extension, unpadded}
use Rattle.wire_spec.specs.declared.faults.RtpFault.{RtpFault}

pub header_read : (octets : List ℕ) (r : Reading) → rtp octets ≡ Ok r → rtp_of_header octets ≡ Ok r
unfolding rtp
header_read octets r e = go (nat_lt (length octets) 12) (slice_index octets 0 / 64 == 2) e
  where
    go : (a b : Bool) → cond a (Err rtp_faults.Short) (cond b (rtp_of_header octets) (Err rtp_faults.Version)) ≡ Ok r → rtp_of_header octets ≡ Ok r
    go true b e = absurd (cc)
    go false true e = e
    go false false e = absurd (cc)

pub type_read : (octets : List ℕ) (r : Reading) → rtp_of_header octets ≡ Ok r → r.pt ≡ slice_index octets 1 % 128
unfolding rtp_of_header
type_read octets r e =
    let first = slice_index octets 0 in
    let a = bind_ok (past (4 * (first % 16)) (drop 12 octets)) _ r e in
    let b = bind_ok (past_extension (first / 16 % 2 == 1) a.0) _ r a.2 in
    let c = bind_ok (unpadded (first / 32 % 2 == 1) b.0) _ r b.2 in
    sym (ap type_in c.2)
  where
    type_in : Result Reading RtpFault → ℕ
    type_in (Ok x) = x.pt
    type_in (Err fault) = slice_index octets 1 % 128
