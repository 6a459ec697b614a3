-- A packet that is the sum of its parts is read so.
use Rattle.std.proofs.Common.{◌≡◌, ℕ, ◌+◌, ◌-◌, ◌*◌, ◌/◌, ◌%◌, ◌^◌, ◌<◌, Bool, true, false, eqb, ltb, leb, List, [], ◌∷◌, ◌++◌, length, take, get_or, Some, Result, Ok, refl, sym, ap, ◌∙◌, arith, append_assoc, length-append}
use Rattle.std.specs.List.{flat_map, AllByRecursion}
use Rattle.std.specs.Int.{w16, w32, to_be_bytes}
use Rattle.std.proofs.lemmas.Bool.{le-ltb, le-leb, lt-leb}
use Rattle.std.proofs.lemmas.List.{take_at, drop_at, get_or_at, length_push, append-nil}
use Rattle.std.proofs.lemmas.Nat.{from_be_bytes-to_be_bytes_2, from_be_bytes-to_be_bytes_4}
use Rattle.wire_spec.specs.declared.faults.RtpFault.{RtpFault}
use Rattle.rtt_base.specs.Steps.{◌>>=◌}
use Rattle.wire_spec.specs.Rtp.{Reading, Rtp, bit, first_in, IsExtension, IsPadding, fixed_header, past, first_source, past_extension, before_padding, unpadded, rtp_of_header, rtp}

-- ---- the first two octets

pub record Flags (first : ℕ) (padded extended : Bool) (cc : ℕ) : Type 0 where
  pub version : first / 64 ≡ 2
  pub cc_is : first % 16 ≡ cc
  pub extension : first / 16 % 2 ≡ bit extended
  pub padding : first / 32 % 2 ≡ bit padded

pub flags : (padded extended : Bool) (cc : ℕ) → cc < 16 → Flags (128 + 32 * bit padded + 16 * bit extended + cc) padded extended cc
flags true true cc h = record { version = omega arith; cc_is = omega arith; extension = omega arith; padding = omega arith }
flags true false cc h = record { version = omega arith; cc_is = omega arith; extension = omega arith; padding = omega arith }
flags false true cc h = record { version = omega arith; cc_is = omega arith; extension = omega arith; padding = omega arith }
flags false false cc h = record { version = omega arith; cc_is = omega arith; extension = omega arith; padding = omega arith }

pub bit_test : (b : Bool) → eqb (bit b) 1 ≡ b
bit_test true = refl
bit_test false = refl

pub marker_bit_test : (marker_bit : Bool) (pt : ℕ) → pt < 128 → leb 128 (128 * bit marker_bit + pt) ≡ marker_bit
marker_bit_test true pt h = le-leb 128 (128 * bit true + pt) (omega arith)
marker_bit_test false pt h = lt-leb 128 (128 * bit false + pt) (omega arith)

pub pt_is : (marker_bit : Bool) (pt : ℕ) → pt < 128 → (128 * bit marker_bit + pt) % 128 ≡ pt
pt_is true pt h = omega arith
pt_is false pt h = omega arith

-- ---- the parts behind the fixed header

pub sources_size : (sources : List ℕ) → length (flat_map (to_be_bytes w32) sources) ≡ 4 * length sources
sources_size [] = refl
sources_size (s ∷ ss) = let rest = sources_size ss in omega (arith, rest)

pub past_front : (n : ℕ) (front rest : List ℕ) → length front ≡ n → past n (front ++ rest) ≡ Ok rest
past_front n front rest e =
    let long : ltb (length (front ++ rest)) n ≡ false = le-ltb (length (front ++ rest)) n (omega (arith, length-append front rest)) in
    rw (long, drop_at front rest n e) refl

pub first_source_is : (sources rest : List ℕ) → AllByRecursion (λ source. source < 2 ^ 32) sources → first_source (length sources) (flat_map (to_be_bytes w32) sources ++ rest) ≡ first_in sources
first_source_is [] rest h = refl
first_source_is (s ∷ ss) rest h = ap (λ (n : ℕ). Some n) (from_be_bytes-to_be_bytes_4 s h.0)

two_octets : (profile : List ℕ) → length profile ≡ 2 → (a : ℕ) × (b : ℕ) × (profile ≡ a ∷ b ∷ [])
two_octets [] h = absurd (omega arith)
two_octets (a ∷ []) h = absurd (omega arith)
two_octets (a ∷ b ∷ []) h = (a, b, refl)
two_octets (a ∷ b ∷ c ∷ cs) h = absurd (omega arith)

past_words : (a b n : ℕ) (words rest : List ℕ) → n < 2 ^ 16 → length words ≡ 4 * n → past_extension true ((a ∷ b ∷ (to_be_bytes w16 n ++ words)) ++ rest) ≡ Ok rest
past_words a b n words rest h e =
    let long : ltb (length ((a ∷ b ∷ (to_be_bytes w16 n ++ words)) ++ rest)) 4 ≡ false = le-ltb _ 4 (omega arith) in
    rw (long, from_be_bytes-to_be_bytes_2 n h) (past_front (4 * n) words rest e)

pub past_extension_is : (extended : Bool) (extension rest : List ℕ) → IsExtension extended extension → past_extension extended (extension ++ rest) ≡ Ok rest
past_extension_is false extension rest h = rw h refl
past_extension_is true extension rest h =
    let p = two_octets h.profile h.two in
    rw (h.parts, p.2) (past_words p.0 p.1 h.n h.words rest h.fits h.each)

padding_taken : (q : ℕ) (octets payload : List ℕ) → leb 1 q ≡ true → leb q (length octets) ≡ true → take (length octets - q) octets ≡ payload → before_padding q octets ≡ Ok payload
padding_taken q octets payload some there e = rw (some, there, e) refl

pub before_padding_is : (payload front : List ℕ) → unpadded true (payload ++ (front ++ (length front + 1) ∷ [])) ≡ Ok payload
before_padding_is payload front =
    let octets : List ℕ = payload ++ (front ++ (length front + 1) ∷ []) in
    let whole : octets ≡ (payload ++ front) ++ (length front + 1) ∷ [] = sym (append_assoc payload front ((length front + 1) ∷ [])) in
    let size : length octets ≡ length payload + (length front + 1) = length-append payload (front ++ (length front + 1) ∷ []) ∙ ap (λ (n : ℕ). length payload + n) (length_push front (length front + 1)) in
    let last : get_or octets (length octets - 1) 0 ≡ length front + 1 =
    ap (λ (xs : List ℕ). get_or xs (length octets - 1) 0) whole ∙ get_or_at (payload ++ front) (length front + 1) [] 0 (length octets - 1) (omega (arith, size, length-append payload front)) in
    let some : leb 1 (length front + 1) ≡ true = le-leb 1 (length front + 1) (omega arith) in
    let there : leb (length front + 1) (length octets) ≡ true = le-leb (length front + 1) (length octets) (omega (arith, size)) in
    let rest : length octets - (length front + 1) ≡ length payload = omega (arith, size) in
    ap (λ (q : ℕ). before_padding q octets) last ∙ padding_taken (length front + 1) octets payload some there (ap (λ (n : ℕ). take n octets) rest ∙ take_at payload (front ++ (length front + 1) ∷ []) (length payload) refl)

pub unpadded_is : (padded : Bool) (payload padding : List ℕ) → IsPadding padded padding → unpadded padded (payload ++ padding) ≡ Ok payload
unpadded_is false payload padding h = rw h (ap (λ (x : List ℕ). Ok x) (append-nil payload))
unpadded_is true payload padding h = rw h.1 (before_padding_is payload h.0)

-- ---- the packet

-- what is read of the fixed header and of what follows it
abbrev after_fixed : Bool → Bool → ℕ → Reading → List ℕ → Result Reading RtpFault
after_fixed padded extended cc r tail = do
  after_sources ← past (4 * cc) tail
  after_extension ← past_extension extended after_sources
  payload ← unpadded padded after_extension
  Ok (record { marker_bit = r.marker_bit; pt = r.pt; seq = r.seq; timestamp = r.timestamp; ssrc = r.ssrc; cc = cc; csrc = first_source cc tail; payload = payload })

pub record FitsFixed (r : Reading) : Type 0 where
  pub pt : r.pt < 2 ^ 7
  pub seq : r.seq < 2 ^ 16
  pub timestamp : r.timestamp < 2 ^ 32
  pub ssrc : r.ssrc < 2 ^ 32

-- the fixed header is read, whatever follows
header_read : (padded extended : Bool) (cc : ℕ) (r : Reading) (tail : List ℕ) → cc < 16 → FitsFixed r → rtp (fixed_header padded extended cc r ++ tail) ≡ after_fixed padded extended cc r tail
unfolding rtp rtp_of_header
header_read padded extended cc r tail few fits =
    let octets : List ℕ = fixed_header padded extended cc r ++ tail in
    let f = flags padded extended cc few in
    let long : ltb (length octets) 12 ≡ false = le-ltb (length octets) 12 (omega arith) in
    let x : eqb ((128 + 32 * bit padded + 16 * bit extended + cc) / 16 % 2) 1 ≡ extended = ap (λ (n : ℕ). eqb n 1) f.extension ∙ bit_test extended in
    let p : eqb ((128 + 32 * bit padded + 16 * bit extended + cc) / 32 % 2) 1 ≡ padded = ap (λ (n : ℕ). eqb n 1) f.padding ∙ bit_test padded in
    rw (long, f.version, x, p, f.cc_is, marker_bit_test r.marker_bit r.pt fits.pt, pt_is r.marker_bit r.pt fits.pt, from_be_bytes-to_be_bytes_2 r.seq fits.seq, from_be_bytes-to_be_bytes_4 r.timestamp fits.timestamp, from_be_bytes-to_be_bytes_4 r.ssrc fits.ssrc) refl

-- a packet is read as what it is, and so as one thing only
pub rtp_only : (octets : List ℕ) (r : Reading) → Rtp octets r → rtp octets ≡ Ok r
rtp_only octets r h =
    let behind : List ℕ = h.extension ++ (r.payload ++ h.padding) in
    let fits : FitsFixed r = record { pt = h.pt; seq = h.seq; timestamp = h.timestamp; ssrc = h.ssrc } in
    let sources = past_front (4 * length h.sources) (flat_map (to_be_bytes w32) h.sources) behind (sources_size h.sources) in
    let extension = past_extension_is h.extended h.extension (r.payload ++ h.padding) h.is_extension in
    let padding = unpadded_is h.padded r.payload h.padding h.is_padding in
    let csrc = first_source_is h.sources behind h.each ∙ sym h.csrc in
    ap rtp h.parts ∙ header_read h.padded h.extended (length h.sources) r (flat_map (to_be_bytes w32) h.sources ++ behind) h.few fits
    ∙ rw (sources, extension, padding, csrc, ← h.cc) refl
