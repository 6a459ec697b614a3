-- The RTP packet: its header, extension, payload and padding (RFC 3550, sections 5.1 and 5.3.1).
use Rattle.std.specs.Prelude.{◌≡◌, ℕ, zero, suc, ◌+◌, ◌-◌, ◌*◌, ◌/◌, ◌%◌, ◌^◌, ◌<◌, ◌==◌, ◌&&◌, Bool, true, false, List, [], ◌∷◌, ◌++◌, length, take, drop, slice_index, Option, None, Some, IfSome, option_to_list, Result, Ok, Err, nat_lt, nat_le, if◌then◌else◌}
use Rattle.std.specs.List.{flat_map, AllByRecursion}
use Rattle.std.specs.Int.{w16, w32, to_be_bytes, from_be_bytes}
use Rattle.wire_spec.specs.declared.faults.RtpFault.{RtpFault}
use Rattle.wire_spec.specs.declared.faults.RtpFault.TheVariants.{Short, Version, Padding}
use Rattle.rtt_base.specs.Steps.{◌>>=◌}

-- what is read of a packet: cc is the number of CSRCs, csrc the first of them
pub record Reading : Type 0 where
  pub marker_bit : Bool
  pub pt : ℕ
  pub seq : ℕ
  pub timestamp : ℕ
  pub ssrc : ℕ
  pub cc : ℕ
  pub csrc : Option ℕ
  pub payload : List ℕ

abbrev pub IsOctets : List ℕ → Type 0
IsOctets octets = (i : ℕ) → slice_index octets i < 256

-- ---- the packet as the sum of its parts

-- a flag as a number
abbrev pub bit : Bool → ℕ
bit true = 1
bit false = 0

abbrev pub first_in : List ℕ → Option ℕ
first_in [] = None
first_in (n ∷ ns) = Some n

-- nothing, or two octets of any value, the number n in two, and n words of four
pub record IsHeaderExtension (octets : List ℕ) : Type 0 where
  pub profile : List ℕ
  pub n : ℕ
  pub words : List ℕ
  pub parts : octets ≡ profile ++ (to_be_bytes w16 n ++ words)
  pub two : length profile ≡ 2
  pub fits : n < 2 ^ 16
  pub each : length words ≡ 4 * n

abbrev pub IsExtension : Bool → List ℕ → Type 0
IsExtension false octets = octets ≡ []
IsExtension true octets = IsHeaderExtension octets

-- nothing, or octets of any value and one that counts them all with itself
abbrev pub IsPadding : Bool → List ℕ → Type 0
IsPadding false octets = octets ≡ []
IsPadding true octets = (front : List ℕ) × (octets ≡ front ++ (length front + 1) ∷ [])

abbrev pub fixed_header : Bool → Bool → ℕ → Reading → List ℕ
fixed_header padded extended cc r =
    (128 + 32 * bit padded + 16 * bit extended + cc) ∷ (128 * bit r.marker_bit + r.pt) ∷ (to_be_bytes w16 r.seq ++ (to_be_bytes w32 r.timestamp ++ to_be_bytes w32 r.ssrc))

-- the octets are a packet that reads so
pub record Rtp (octets : List ℕ) (r : Reading) : Type 0 where
  pub padded : Bool
  pub extended : Bool
  pub sources : List ℕ
  pub extension : List ℕ
  pub padding : List ℕ
  pub parts : octets ≡ fixed_header padded extended (length sources) r ++ (flat_map (to_be_bytes w32) sources ++ (extension ++ (r.payload ++ padding)))
  pub is_extension : IsExtension extended extension
  pub is_padding : IsPadding padded padding
  pub pt : r.pt < 2 ^ 7
  pub seq : r.seq < 2 ^ 16
  pub timestamp : r.timestamp < 2 ^ 32
  pub ssrc : r.ssrc < 2 ^ 32
  pub few : length sources < 2 ^ 4
  pub each : AllByRecursion (λ source. source < 2 ^ 32) sources
  pub cc : r.cc ≡ length sources
  pub csrc : r.csrc ≡ first_in sources

-- ---- reading, with the first test that fails

-- what follows n octets
abbrev pub past : ℕ → List ℕ → Result (List ℕ) RtpFault
past n octets = if nat_lt (length octets) n then Err Short else Ok (drop n octets)

-- the first of cc CSRCs
abbrev pub first_source : ℕ → List ℕ → Option ℕ
first_source zero octets = None
first_source (suc n) octets = Some (from_be_bytes w32 octets)

-- what follows the extension, where there is one
abbrev pub past_extension : Bool → List ℕ → Result (List ℕ) RtpFault
past_extension false octets = Ok octets
past_extension true octets = do
  words ← past 4 octets
  past (4 * from_be_bytes w16 (drop 2 octets)) words

-- what stands before q octets of padding
abbrev pub before_padding : ℕ → List ℕ → Result (List ℕ) RtpFault
before_padding q octets = if nat_le 1 q && nat_le q (length octets) then Ok (take (length octets - q) octets) else Err Padding

-- the payload: all, or what stands before the padding, whose last octet counts it
abbrev pub unpadded : Bool → List ℕ → Result (List ℕ) RtpFault
unpadded false octets = Ok octets
unpadded true octets = before_padding (slice_index octets (length octets - 1)) octets

-- a packet of at least twelve octets and of version 2
unfoldable pub rtp_of_header : List ℕ → Result Reading RtpFault
rtp_of_header octets =
    let first = slice_index octets 0 in
    let second = slice_index octets 1 in do
      after_sources ← past (4 * (first % 16)) (drop 12 octets)
      after_extension ← past_extension (first / 16 % 2 == 1) after_sources
      payload ← unpadded (first / 32 % 2 == 1) after_extension
      Ok (record {
        marker_bit = nat_le 128 second;
        pt = second % 128;
        seq = from_be_bytes w16 (drop 2 octets);
        timestamp = from_be_bytes w32 (drop 4 octets);
        ssrc = from_be_bytes w32 (drop 8 octets);
        cc = first % 16;
        csrc = first_source (first % 16) (drop 12 octets);
        payload = payload;
      })

unfoldable pub rtp : List ℕ → Result Reading RtpFault
rtp octets =
    if nat_lt (length octets) 12 then Err Short
    else (if slice_index octets 0 / 64 == 2 then rtp_of_header octets else Err Version)

-- ---- writing

-- what is written of a header: one CSRC or none
pub record Head : Type 0 where
  pub marker_bit : Bool
  pub pt : ℕ
  pub seq : ℕ
  pub timestamp : ℕ
  pub ssrc : ℕ
  pub csrc : Option ℕ

-- what is read of a packet that was written so
abbrev pub reading_of : Head → List ℕ → Reading
reading_of h payload =
    record { marker_bit = h.marker_bit; pt = h.pt; seq = h.seq; timestamp = h.timestamp; ssrc = h.ssrc; cc = length (option_to_list h.csrc); csrc = h.csrc; payload = payload }

-- the one spelling, without extension and padding
abbrev pub rtp_written : Head → List ℕ → List ℕ
rtp_written h payload =
    fixed_header false false (length (option_to_list h.csrc)) (reading_of h payload) ++ (flat_map (to_be_bytes w32) (option_to_list h.csrc) ++ payload)

-- how many octets stand before the payload: twelve, or sixteen with a CSRC
abbrev pub header_size : Head → ℕ
header_size h = 12 + 4 * length (option_to_list h.csrc)

-- what has a spelling
pub record FitsHeader (h : Head) : Type 0 where
  pub pt : h.pt < 2 ^ 7
  pub seq : h.seq < 2 ^ 16
  pub timestamp : h.timestamp < 2 ^ 32
  pub ssrc : h.ssrc < 2 ^ 32
  pub csrc : IfSome h.csrc (λ source. source < 2 ^ 32)
