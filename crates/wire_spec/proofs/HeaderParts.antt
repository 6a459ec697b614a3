-- What is read of a packet is the sum of its parts.
use Rattle.std.proofs.Common.{◌≡◌, ℕ, zero, suc, ◌+◌, ◌-◌, ◌*◌, ◌/◌, ◌%◌, ◌^◌, ◌<◌, ◌≤◌, Bool, true, false, cond, eqb, ltb, leb, List, [], ◌∷◌, ◌++◌, length, take, drop, get_or, Ok, Err, refl, sym, ap, subst, ◌∙◌, arith, length-take, length-drop, get_or-drop, get_or-take, inl, inr, ◌&&◌}
use Rattle.std.specs.List.{flat_map, AllByRecursion}
use Rattle.std.specs.Int.{w16, w32, to_be_bytes, from_be_bytes}
use Rattle.std.proofs.lemmas.Bool.{le-leb, lt-leb, ltb-false, leb-true, eqb-true, cases_lt, and_parts}
use Rattle.std.proofs.lemmas.List.{take-append-drop, drop_more, take_more, take_all, append-nil, get_or_past}
use Rattle.std.proofs.lemmas.Nat.{be_bytes_2, be_bytes_4}
use Rattle.wire_spec.specs.declared.faults.RtpFault.TheVariants.{Short, Version, Padding}
use Rattle.rtt_base.specs.Steps.{◌>>=◌}
use Rattle.rtt_base.proofs.Steps.{bind_ok}
use Rattle.wire_spec.proofs.Tests.{guard, guard_else, guard_ok, guard_ended, ok_is, failed}
use Rattle.wire_spec.specs.Rtp.{Reading, Rtp, IsOctets, bit, first_in, IsExtension, IsPadding, past, first_source, past_extension, unpadded, rtp_of_header, rtp}
use Rattle.wire_spec.proofs.BlockParts.{IsOctets-drop}

IsOctets-take : (n : ℕ) (octets : List ℕ) → IsOctets octets → IsOctets (take n octets)
IsOctets-take n octets h i =
    elim (cases_lt i n) [
      | inl lt ↦ rw (get_or-take n octets i 0 lt) (h i)
      | inr le ↦ rw (get_or_past (take n octets) i 0 (omega (arith, length-take n octets))) (omega arith)
    ]

-- ---- the parts behind the fixed header

past_parts : (n : ℕ) (octets rest : List ℕ) → past n octets ≡ Ok rest → (n ≤ length octets) × (octets ≡ take n octets ++ rest) × (rest ≡ drop n octets)
past_parts n octets rest e =
    let g = guard_ok (ltb (length octets) n) Short (drop n octets) rest e in
    (ltb-false _ _ g.0, rw (← g.1) (sym (take-append-drop n octets)), sym g.1)

pub record Sources (n : ℕ) (octets : List ℕ) : Type 0 where
  pub sources : List ℕ
  pub parts : octets ≡ flat_map (to_be_bytes w32) sources
  pub count : length sources ≡ n
  pub each : AllByRecursion (λ source. source < 2 ^ 32) sources
  pub first : (rest : List ℕ) → first_source n (octets ++ rest) ≡ first_in sources

sources_of : (n : ℕ) (octets : List ℕ) → length octets ≡ 4 * n → IsOctets octets → Sources n octets
sources_of zero octets e h = record { sources = []; parts = nil_of octets e; count = refl; each = tt; first = λ rest. refl }
  where
    nil_of : (xs : List ℕ) → length xs ≡ 0 → xs ≡ []
    nil_of [] k = refl
    nil_of (x ∷ xs) k = absurd (omega arith)
sources_of (suc n) [] e h = absurd (omega arith)
sources_of (suc n) (a ∷ []) e h = absurd (omega arith)
sources_of (suc n) (a ∷ b ∷ []) e h = absurd (omega arith)
sources_of (suc n) (a ∷ b ∷ c ∷ []) e h = absurd (omega arith)
sources_of (suc n) (a ∷ b ∷ c ∷ d ∷ octets) e h =
    let more = sources_of n octets (omega arith) (λ i. h (suc (suc (suc (suc i))))) in
    let word : List ℕ = a ∷ b ∷ c ∷ d ∷ [] in
    let same : to_be_bytes w32 (from_be_bytes w32 word) ≡ word = be_bytes_4 word _ refl (IsOctets-take 4 (a ∷ b ∷ c ∷ d ∷ octets) h) refl in
    record {
      sources = from_be_bytes w32 word ∷ more.sources;
      parts = ap (λ (x : List ℕ). word ++ x) more.parts ∙ ap (λ (x : List ℕ). x ++ flat_map (to_be_bytes w32) more.sources) (sym same);
      count = ap suc more.count;
      each = (omega (arith, h 0, h 1, h 2, h 3), more.each);
      first = λ rest. refl;
    }

extension_parts : (extended : Bool) (octets rest : List ℕ) → IsOctets octets → past_extension extended octets ≡ Ok rest → (extension : List ℕ) × (octets ≡ extension ++ rest) × IsExtension extended extension
extension_parts false octets rest h e = ([], ok_is octets rest e, refl)
extension_parts true [] rest h e = absurd (failed Short rest e)
extension_parts true (a ∷ []) rest h e = absurd (failed Short rest e)
extension_parts true (a ∷ b ∷ []) rest h e = absurd (failed Short rest e)
extension_parts true (a ∷ b ∷ c ∷ []) rest h e = absurd (failed Short rest e)
extension_parts true (a ∷ b ∷ c ∷ d ∷ octets) rest h e =
    let n : ℕ = from_be_bytes w16 (c ∷ d ∷ []) in
    let x = bind_ok (past 4 (a ∷ b ∷ c ∷ d ∷ octets)) (λ words. past (4 * n) words) rest e in
    let p = past_parts 4 (a ∷ b ∷ c ∷ d ∷ octets) x.0 x.1 in
    let q = past_parts (4 * n) x.0 rest x.2 in
    let words : octets ≡ take (4 * n) octets ++ rest = subst (λ (y : List ℕ). y ≡ take (4 * n) y ++ rest) p.2 q.1 in
    let there : 4 * n ≤ length octets = subst (λ (y : List ℕ). 4 * n ≤ length y) p.2 q.0 in
    let two : IsOctets (c ∷ d ∷ []) = IsOctets-take 2 (c ∷ d ∷ octets) (IsOctets-drop 2 (a ∷ b ∷ c ∷ d ∷ octets) h) in
    let same : to_be_bytes w16 n ≡ c ∷ d ∷ [] = be_bytes_2 (c ∷ d ∷ []) n refl two refl in (
      a ∷ b ∷ c ∷ d ∷ take (4 * n) octets,
      ap (λ (y : List ℕ). a ∷ b ∷ c ∷ d ∷ y) words,
      record {
        profile = a ∷ b ∷ [];
        n = n;
        words = take (4 * n) octets;
        parts = ap (λ (y : List ℕ). a ∷ b ∷ (y ++ take (4 * n) octets)) (sym same);
        two = refl;
        fits = omega (arith, two 0, two 1);
        each = omega (arith, length-take (4 * n) octets);
      },
    )

counted : (q : ℕ) (padding : List ℕ) → 1 ≤ q → length padding ≡ q → get_or padding (q - 1) 0 ≡ q → (front : List ℕ) × (padding ≡ front ++ (length front + 1) ∷ [])
counted q padding some size last =
    let one : take (q - 1 + 1) padding ≡ take (q - 1) padding ++ get_or padding (q - 1) 0 ∷ [] = take_more padding (q - 1) 0 (omega arith) in
    let all : take (q - 1 + 1) padding ≡ padding = take_all (q - 1 + 1) padding (omega arith) in
    let count : q ≡ length (take (q - 1) padding) + 1 = omega (arith, length-take (q - 1) padding) in
    (take (q - 1) padding, sym all ∙ one ∙ ap (λ (n : ℕ). take (q - 1) padding ++ n ∷ []) (last ∙ count))

padding_parts : (padded : Bool) (octets payload : List ℕ) → unpadded padded octets ≡ Ok payload → (padding : List ℕ) × (octets ≡ payload ++ padding) × IsPadding padded padding
padding_parts false octets payload e = ([], ok_is octets payload e ∙ sym (append-nil payload), refl)
padding_parts true octets payload e =
    let q : ℕ = get_or octets (length octets - 1) 0 in
    let g = guard_ended (leb 1 q && leb q (length octets)) Padding (take (length octets - q) octets) payload e in
    let t = and_parts (leb 1 q) (leb q (length octets)) g.0 in
    let some : 1 ≤ q = leb-true _ _ t.0 in
    let there : q ≤ length octets = leb-true _ _ t.1 in
    let place : length octets - q + (q - 1) ≡ length octets - 1 = omega arith in
    let last : get_or (drop (length octets - q) octets) (q - 1) 0 ≡ q = get_or-drop (length octets - q) octets (q - 1) 0 ∙ ap (λ (n : ℕ). get_or octets n 0) place in
    let c = counted q (drop (length octets - q) octets) some (omega (arith, length-drop (length octets - q) octets)) last in
    (drop (length octets - q) octets, sym (take-append-drop (length octets - q) octets) ∙ ap (λ (y : List ℕ). y ++ drop (length octets - q) octets) g.1, c)

-- ---- the first two octets

bit_of : (n : ℕ) → n < 2 → bit (eqb n 1) ≡ n
bit_of zero h = refl
bit_of (suc zero) h = refl
bit_of (suc (suc n)) h = absurd (omega arith)

first_is : (first : ℕ) → first / 64 ≡ 2 → first ≡ 128 + 32 * bit (eqb (first / 32 % 2) 1) + 16 * bit (eqb (first / 16 % 2) 1) + first % 16
first_is first h =
    let p = bit_of (first / 32 % 2) (omega arith) in
    let x = bit_of (first / 16 % 2) (omega arith) in
    omega (arith, p, x)

second_is : (second : ℕ) → second < 256 → second ≡ 128 * bit (leb 128 second) + second % 128
second_is second h =
    elim (cases_lt second 128) [
      | inl lt ↦ (let e : leb 128 second ≡ false = lt-leb 128 second lt in rw e (omega arith))
      | inr le ↦ (let e : leb 128 second ≡ true = le-leb 128 second le in rw e (omega arith))
    ]

-- ---- the packet

twelve : (octets : List ℕ) → 12 ≤ length octets → octets ≡ get_or octets 0 0 ∷ get_or octets 1 0 ∷ get_or octets 2 0 ∷ get_or octets 3 0 ∷ get_or octets 4 0 ∷ get_or octets 5 0 ∷ get_or octets 6 0 ∷ get_or octets 7 0 ∷ get_or octets 8 0 ∷ get_or octets 9 0 ∷ get_or octets 10 0 ∷ get_or octets 11 0 ∷ drop 12 octets
twelve octets h =
    drop_more octets 0 0 (omega arith) ∙ ap (λ (y : List ℕ). get_or octets 0 0 ∷ y) (drop_more octets 1 0 (omega arith) ∙ ap (λ (y : List ℕ). get_or octets 1 0 ∷ y) (drop_more octets 2 0 (omega arith) ∙ ap (λ (y : List ℕ). get_or octets 2 0 ∷ y) (drop_more octets 3 0 (omega arith) ∙ ap (λ (y : List ℕ). get_or octets 3 0 ∷ y) (drop_more octets 4 0 (omega arith) ∙ ap (λ (y : List ℕ). get_or octets 4 0 ∷ y) (drop_more octets 5 0 (omega arith) ∙ ap (λ (y : List ℕ). get_or octets 5 0 ∷ y) (drop_more octets 6 0 (omega arith) ∙ ap (λ (y : List ℕ). get_or octets 6 0 ∷ y) (drop_more octets 7 0 (omega arith) ∙ ap (λ (y : List ℕ). get_or octets 7 0 ∷ y) (drop_more octets 8 0 (omega arith) ∙ ap (λ (y : List ℕ). get_or octets 8 0 ∷ y) (drop_more octets 9 0 (omega arith) ∙ ap (λ (y : List ℕ). get_or octets 9 0 ∷ y) (drop_more octets 10 0 (omega arith) ∙ ap (λ (y : List ℕ). get_or octets 10 0 ∷ y) (drop_more octets 11 0 (omega arith))))))))))))

tests_passed : (octets : List ℕ) (r : Reading) → rtp octets ≡ Ok r → (12 ≤ length octets) × (get_or octets 0 0 / 64 ≡ 2) × (rtp_of_header octets ≡ Ok r)
unfolding rtp
tests_passed octets r e =
    let a = guard (ltb (length octets) 12) Short (cond (eqb (get_or octets 0 0 / 64) 2) (rtp_of_header octets) (Err Version)) r e in
    let b = guard_else (eqb (get_or octets 0 0 / 64) 2) Version (rtp_of_header octets) r a.1 in
    (ltb-false _ _ a.0, eqb-true _ _ b.0, b.1)

word_2 : (a b : ℕ) → a < 256 → b < 256 → (from_be_bytes w16 (a ∷ b ∷ []) < 2 ^ 16) × (a ∷ b ∷ [] ≡ to_be_bytes w16 (from_be_bytes w16 (a ∷ b ∷ [])))
word_2 a b h k = (omega arith, sym (be_bytes_2 (a ∷ b ∷ []) _ refl each refl))
  where
    each : IsOctets (a ∷ b ∷ [])
    each zero = h
    each (suc zero) = k
    each (suc (suc i)) = omega arith

word_4 : (a b c d : ℕ) → a < 256 → b < 256 → c < 256 → d < 256 → (from_be_bytes w32 (a ∷ b ∷ c ∷ d ∷ []) < 2 ^ 32) × (a ∷ b ∷ c ∷ d ∷ [] ≡ to_be_bytes w32 (from_be_bytes w32 (a ∷ b ∷ c ∷ d ∷ [])))
word_4 a b c d h k l m = (omega arith, sym (be_bytes_4 (a ∷ b ∷ c ∷ d ∷ []) _ refl each refl))
  where
    each : IsOctets (a ∷ b ∷ c ∷ d ∷ [])
    each zero = h
    each (suc zero) = k
    each (suc (suc zero)) = l
    each (suc (suc (suc zero))) = m
    each (suc (suc (suc (suc i)))) = omega arith

same_parts : {x x' y y' : ℕ} {a a' b b' c c' d d' : List ℕ} → x ≡ x' → y ≡ y' → a ≡ a' → b ≡ b' → c ≡ c' → d ≡ d' → x ∷ y ∷ (a ++ (b ++ (c ++ d))) ≡ x' ∷ y' ∷ (a' ++ (b' ++ (c' ++ d')))
same_parts p q r s t u = cc

-- the header that these octets have, with this payload
abbrev header_of : (b0 b1 b2 b3 b4 b5 b6 b7 b8 b9 b10 b11 : ℕ) → List ℕ → List ℕ → Reading
header_of b0 b1 b2 b3 b4 b5 b6 b7 b8 b9 b10 b11 tail payload = record {
  marker_bit = leb 128 b1;
  pt = b1 % 128;
  seq = from_be_bytes w16 (b2 ∷ b3 ∷ []);
  timestamp = from_be_bytes w32 (b4 ∷ b5 ∷ b6 ∷ b7 ∷ []);
  ssrc = from_be_bytes w32 (b8 ∷ b9 ∷ b10 ∷ b11 ∷ []);
  cc = b0 % 16;
  csrc = first_source (b0 % 16) tail;
  payload = payload;
}

put_together : (b0 b1 b2 b3 b4 b5 b6 b7 b8 b9 b10 b11 : ℕ) (tail after_sources after_extension payload extension padding : List ℕ) → IsOctets (b0 ∷ b1 ∷ b2 ∷ b3 ∷ b4 ∷ b5 ∷ b6 ∷ b7 ∷ b8 ∷ b9 ∷ b10 ∷ b11 ∷ tail) → b0 / 64 ≡ 2
    → Sources (b0 % 16) (take (4 * (b0 % 16)) tail) → tail ≡ take (4 * (b0 % 16)) tail ++ after_sources
    → after_sources ≡ extension ++ after_extension → IsExtension (eqb (b0 / 16 % 2) 1) extension
    → after_extension ≡ payload ++ padding → IsPadding (eqb (b0 / 32 % 2) 1) padding
    → Rtp (b0 ∷ b1 ∷ b2 ∷ b3 ∷ b4 ∷ b5 ∷ b6 ∷ b7 ∷ b8 ∷ b9 ∷ b10 ∷ b11 ∷ tail) (header_of b0 b1 b2 b3 b4 b5 b6 b7 b8 b9 b10 b11 tail payload)
put_together b0 b1 b2 b3 b4 b5 b6 b7 b8 b9 b10 b11 tail after_sources after_extension payload extension padding h version srcs front e_ext is_ext e_pad is_pad =
    let words : List ℕ = flat_map (to_be_bytes w32) srcs.sources in
    let seq = word_2 b2 b3 (h 2) (h 3) in
    let timestamp = word_4 b4 b5 b6 b7 (h 4) (h 5) (h 6) (h 7) in
    let ssrc = word_4 b8 b9 b10 b11 (h 8) (h 9) (h 10) (h 11) in
    let e_tail : tail ≡ words ++ (extension ++ (payload ++ padding)) =
    front ∙ ap (λ (y : List ℕ). y ++ after_sources) srcs.parts ∙ ap (λ (y : List ℕ). words ++ y) (e_ext ∙ ap (λ (y : List ℕ). extension ++ y) e_pad) in
    let e_first : b0 ≡ 128 + 32 * bit (eqb (b0 / 32 % 2) 1) + 16 * bit (eqb (b0 / 16 % 2) 1) + length srcs.sources =
    first_is b0 version ∙ ap (λ (n : ℕ). 128 + 32 * bit (eqb (b0 / 32 % 2) 1) + 16 * bit (eqb (b0 / 16 % 2) 1) + n) (sym srcs.count) in
    let e_second : b1 ≡ 128 * bit (leb 128 b1) + b1 % 128 = second_is b1 (h 1) in
    record {
      padded = eqb (b0 / 32 % 2) 1;
      extended = eqb (b0 / 16 % 2) 1;
      sources = srcs.sources;
      extension = extension;
      padding = padding;
      parts = same_parts e_first e_second seq.1 timestamp.1 ssrc.1 e_tail;
      is_extension = is_ext;
      is_padding = is_pad;
      pt = omega arith;
      seq = seq.0;
      timestamp = timestamp.0;
      ssrc = ssrc.0;
      few = omega (arith, srcs.count);
      each = srcs.each;
      cc = sym srcs.count;
      csrc = ap (first_source (b0 % 16)) front ∙ srcs.first after_sources;
    }

cells_parts : (b0 b1 b2 b3 b4 b5 b6 b7 b8 b9 b10 b11 : ℕ) (tail : List ℕ) (r : Reading) → IsOctets (b0 ∷ b1 ∷ b2 ∷ b3 ∷ b4 ∷ b5 ∷ b6 ∷ b7 ∷ b8 ∷ b9 ∷ b10 ∷ b11 ∷ tail) → b0 / 64 ≡ 2 → rtp_of_header (b0 ∷ b1 ∷ b2 ∷ b3 ∷ b4 ∷ b5 ∷ b6 ∷ b7 ∷ b8 ∷ b9 ∷ b10 ∷ b11 ∷ tail) ≡ Ok r → Rtp (b0 ∷ b1 ∷ b2 ∷ b3 ∷ b4 ∷ b5 ∷ b6 ∷ b7 ∷ b8 ∷ b9 ∷ b10 ∷ b11 ∷ tail) r
unfolding rtp_of_header
cells_parts b0 b1 b2 b3 b4 b5 b6 b7 b8 b9 b10 b11 tail r h version e =
    let padded : Bool = eqb (b0 / 32 % 2) 1 in
    let extended : Bool = eqb (b0 / 16 % 2) 1 in
    let made : List ℕ → Reading = header_of b0 b1 b2 b3 b4 b5 b6 b7 b8 b9 b10 b11 tail in
    let a = bind_ok (past (4 * (b0 % 16)) tail) (λ after_sources. past_extension extended after_sources >>= λ after_extension. unpadded padded after_extension >>= λ payload. Ok (made payload)) r e in
    let b = bind_ok (past_extension extended a.0) (λ after_extension. unpadded padded after_extension >>= λ payload. Ok (made payload)) r a.2 in
    let c = bind_ok (unpadded padded b.0) (λ payload. Ok (made payload)) r b.2 in
    let behind : IsOctets tail = λ i. h (suc (suc (suc (suc (suc (suc (suc (suc (suc (suc (suc (suc (i))))))))))))) in
    let front = past_parts (4 * (b0 % 16)) tail a.0 a.1 in
    let sources = sources_of (b0 % 16) (take (4 * (b0 % 16)) tail) (omega (arith, front.0, length-take (4 * (b0 % 16)) tail)) (IsOctets-take (4 * (b0 % 16)) tail behind) in
    let rest : IsOctets a.0 = subst IsOctets (sym front.2) (IsOctets-drop (4 * (b0 % 16)) tail behind) in
    let extension = extension_parts extended a.0 b.0 rest b.1 in
    let padding = padding_parts padded b.0 c.0 c.1 in
    subst (λ (y : Reading). Rtp (b0 ∷ b1 ∷ b2 ∷ b3 ∷ b4 ∷ b5 ∷ b6 ∷ b7 ∷ b8 ∷ b9 ∷ b10 ∷ b11 ∷ tail) y) (ok_is (made c.0) r c.2)
    (put_together b0 b1 b2 b3 b4 b5 b6 b7 b8 b9 b10 b11 tail a.0 b.0 c.0 extension.0 padding.0 h version sources front.1 extension.1 extension.2 padding.1 padding.2)

-- a packet that is read is what it was read as
pub rtp_found : (octets : List ℕ) (r : Reading) → IsOctets octets → rtp octets ≡ Ok r → Rtp octets r
rtp_found octets r h e =
    let t = tests_passed octets r e in
    let c = twelve octets t.0 in
    subst (λ (y : List ℕ). Rtp y r) (sym c)
    (cells_parts (get_or octets 0 0) (get_or octets 1 0) (get_or octets 2 0) (get_or octets 3 0) (get_or octets 4 0) (get_or octets 5 0) (get_or octets 6 0) (get_or octets 7 0) (get_or octets 8 0) (get_or octets 9 0) (get_or octets 10 0) (get_or octets 11 0) (drop 12 octets) r (subst IsOctets c h) t.1 (sym (ap rtp_of_header c) ∙ t.2))
