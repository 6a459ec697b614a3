-- A recording is that of one list of records.
use Rattle.std.proofs.Common.{◌≡◌, ℕ, ◌+◌, List, [], ◌∷◌, ◌++◌, length, take, drop, refl, sym, ap, ◌∙◌, arith}
use Rattle.std.specs.Prelude.{flat_map}
use Rattle.std.specs.List.{AllByRecursion}
use Rattle.std.proofs.lemmas.List.{take_at, drop_at}
use Rattle.std.proofs.lemmas.Nat.{from_be_bytes-to_be_bytes_2, from_be_bytes-to_be_bytes_4}
use Rattle.wire_spec.specs.Dump.{size_of, time_of, record_written, dump_written}
use Rattle.rtpdump_io.specs.InMemory.{IsRecord}
use Rattle.playback.specs.Written.{IsWrittenOf}

-- ---- the first record

size_is : (r : ℕ × List ℕ) (more : List ℕ) → IsRecord r → size_of (record_written r ++ more) ≡ length r.1 + 8
size_is r more f = from_be_bytes-to_be_bytes_2 (length r.1 + 8) (omega (arith, f.fits))

time_is : (r : ℕ × List ℕ) (more : List ℕ) → IsRecord r → time_of (record_written r ++ more) ≡ r.0
time_is r more f = from_be_bytes-to_be_bytes_4 r.0 (omega (arith, f.moment))

record Same (r s : ℕ × List ℕ) (behind more : List ℕ) : Type 0 where
  first : r ≡ s
  rest : behind ≡ more

same_first : (r s : ℕ × List ℕ) (behind more : List ℕ) → IsRecord r → IsRecord s → record_written r ++ behind ≡ record_written s ++ more → Same r s behind more
same_first r s behind more f g e =
    let size : length r.1 + 8 ≡ length s.1 + 8 = sym (size_is r behind f) ∙ (ap size_of e ∙ size_is s more g) in
    let same : length s.1 ≡ length r.1 = omega (arith, size) in
    let moment : r.0 ≡ s.0 = sym (time_is r behind f) ∙ (ap time_of e ∙ time_is s more g) in
    let body : r.1 ++ behind ≡ s.1 ++ more = ap (drop 8) e in
    let packet : r.1 ≡ s.1 = sym (take_at r.1 behind (length r.1) refl) ∙ (ap (take (length r.1)) body ∙ take_at s.1 more (length r.1) same) in
    record {
      first = ap (λ (t : ℕ). (t, r.1)) moment ∙ ap (λ (xs : List ℕ). (s.0, xs)) packet;
      rest = sym (drop_at r.1 behind (length r.1) refl) ∙ (ap (drop (length r.1)) body ∙ drop_at s.1 more (length r.1) same);
    }

-- ---- all records

same_records : (rs ss : List (ℕ × List ℕ)) → AllByRecursion IsRecord rs → AllByRecursion IsRecord ss → flat_map record_written rs ≡ flat_map record_written ss → rs ≡ ss
same_records [] [] f g e = refl
same_records [] (s ∷ ss) f g e = absurd (omega (arith, ap (λ (xs : List ℕ). length xs) e))
same_records (r ∷ rs) [] f g e = absurd (omega (arith, ap (λ (xs : List ℕ). length xs) e))
same_records (r ∷ rs) (s ∷ ss) f g e =
    let d = same_first r s (flat_map record_written rs) (flat_map record_written ss) f.0 g.0 e in
    ap (λ (x : ℕ × List ℕ). x ∷ rs) d.first ∙ ap (λ (xs : List (ℕ × List ℕ)). s ∷ xs) (same_records rs ss f.1 g.1 d.rest)

behind_opening : (rs : List (ℕ × List ℕ)) → drop 44 (dump_written rs) ≡ flat_map record_written rs
behind_opening rs = refl

pub one_recording : (octets : List ℕ) (rs ss : List (ℕ × List ℕ)) → IsWrittenOf octets rs → IsWrittenOf octets ss → rs ≡ ss
one_recording octets rs ss a b =
    same_records rs ss a.each b.each (sym (behind_opening rs) ∙ (ap (drop 44) (sym a.is ∙ b.is) ∙ behind_opening ss))
