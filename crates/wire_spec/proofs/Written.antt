-- What is written is read as what was written, and as nothing else.
use Rattle.std.proofs.Common.{◌≡◌, ℕ, ◌<◌, ◌^◌, false, List, [], ◌++◌, length, Option, None, Some, option_to_list, Result, Ok, refl, sym, ap, ◌∙◌, arith}
use Rattle.std.specs.Prelude.{IfSome}
use Rattle.std.specs.List.{flat_map, AllByRecursion}
use Rattle.std.specs.Int.{w32, to_be_bytes}
use Rattle.std.proofs.lemmas.List.{append-nil}
use Rattle.wire_spec.specs.declared.faults.RtpFault.{RtpFault}
use Rattle.wire_spec.specs.Rtp.{Reading, Rtp, Head, FitsHeader, first_in, fixed_header, reading_of, rtp, rtp_written}
use Rattle.wire_spec.proofs.HeaderLaws.{rtp_only}

few_sources : (csrc : Option ℕ) → length (option_to_list csrc) < 2 ^ 4
few_sources None = omega arith
few_sources (Some source) = omega arith

each_source : (csrc : Option ℕ) → IfSome csrc (λ source. source < 2 ^ 32) → AllByRecursion (λ source. source < 2 ^ 32) (option_to_list csrc)
each_source None h = tt
each_source (Some source) h = (h, tt)

first_source_written : (csrc : Option ℕ) → csrc ≡ first_in (option_to_list csrc)
first_source_written None = refl
first_source_written (Some source) = refl

pub rtp_again : (h : Head) (payload : List ℕ) → FitsHeader h → Rtp (rtp_written h payload) (reading_of h payload)
rtp_again h payload fits = record {
  padded = false;
  extended = false;
  sources = option_to_list h.csrc;
  extension = [];
  padding = [];
  parts = ap (λ (rest : List ℕ). fixed_header false false (length (option_to_list h.csrc)) (reading_of h payload) ++ (flat_map (to_be_bytes w32) (option_to_list h.csrc) ++ rest)) (sym (append-nil payload));
  is_extension = refl;
  is_padding = refl;
  pt = fits.pt;
  seq = fits.seq;
  timestamp = fits.timestamp;
  ssrc = fits.ssrc;
  few = few_sources h.csrc;
  each = each_source h.csrc fits.csrc;
  cc = refl;
  csrc = first_source_written h.csrc;
}

abbrev done : Reading → Result Reading RtpFault
done r = Ok r

same_reading : (r s : Reading) → done r ≡ done s → r ≡ s
same_reading r s e = cc

pub rtp_read_back : (h : Head) (payload : List ℕ) → FitsHeader h → rtp (rtp_written h payload) ≡ Ok (reading_of h payload)
rtp_read_back h payload fits = rtp_only (rtp_written h payload) (reading_of h payload) (rtp_again h payload fits)

pub rtp_one_reading : (h : Head) (payload : List ℕ) (r : Reading) → FitsHeader h → Rtp (rtp_written h payload) r → r ≡ reading_of h payload
rtp_one_reading h payload r fits reads = same_reading r (reading_of h payload) (sym (rtp_only (rtp_written h payload) r reads) ∙ rtp_read_back h payload fits)
