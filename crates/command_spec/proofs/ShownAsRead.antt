-- What arrives of a stream is the same whether all records are heard or those of the stream alone.
use Rattle.std.proofs.Common.{◌≡◌, ℕ, ◌%◌, Bool, true, false, cond, None, Some, List, [], ◌∷◌, length, refl, ap, sym, ◌∙◌, arith}
use Rattle.std.specs.Prelude.{Result, Ok, Err, ◌==◌, ◌&&◌, nat_lt, nat_le, slice_index}
use Rattle.std.proofs.lemmas.Bool.{true≢false, leb-true, and_parts as both, or_parts as neither}
use Rattle.std.proofs.lemmas.Bool.Decides.{Decides-eqb}
use Rattle.rtt_base.specs.Steps.{◌>>=◌}
use Rattle.rtt_base.specs.declared.text_packets.PayloadTypes.{PayloadTypes}
use Rattle.rtt_base.specs.declared.limits.TheConstants.{MOST_PACKET_OCTETS}
use Rattle.wire_spec.specs.declared.faults.RtpFault.{RtpFault}
use Rattle.wire_spec.specs.declared.faults.TextFault.{TextFault}
use Rattle.wire_spec.specs.declared.faults.TextFault.TheVariants.{Sources, WrongType, Long, Foreign}
use Rattle.wire_spec.specs.declared.faults.RedFault.TheVariants as red_faults
use Rattle.wire_spec.specs.Faults.{header_fault, blocks_fault}
use Rattle.wire_spec.specs.Packets.{Packet, Arrival}
use Rattle.wire_spec.specs.Rtp.{Reading, rtp}
use Rattle.wire_spec.specs.Red.{headers_at, red, red_within, texts_at}
use Rattle.wire_spec.specs.Text.{accepted, refused_as, short_within, text_of, text_of_short, text_packet, text_within}
use Rattle.wire_spec.specs.Dump.{Item, What, Whole, arrived, arrivals_with, arrivals_after}
use Rattle.wire_spec.specs.Dump as dumps
use Rattle.command_spec.proofs.HeaderTypes.{header_read, type_read}
use Rattle.command_spec.specs.Streams as sorts
use Rattle.command_spec.specs.Streams.{is_rtcp, headed, sort_of, sort_of_what, is_of_text, stream_of, is_name, stream, is_dynamic}

-- ---- a packet of another stream
-- RTCP has no payload type of text
rtcp_type : (second t : ℕ) → (nat_le 192 second && nat_le second 223) ≡ true → is_dynamic t ≡ true → (second % 128 == t) ≡ false
rtcp_type second t r d = go (second % 128 == t) refl
  where
    go : (b : Bool) → (second % 128 == t) ≡ b → b ≡ false
    go false e = refl
    go true e =
        let low = leb-true 192 second (both _ _ r).0 in
        let high = leb-true second 223 (both _ _ r).1 in
        let least = leb-true 96 t (both _ _ d).0 in
        let same = (Decides-eqb (second % 128) t).0 e in
        absurd (omega (arith, low, high, least, same))

-- a type of neither
abbrev IsOther : PayloadTypes → ℕ → Type 0
IsOther payload_types pt = ((pt == payload_types.t140) ≡ false) × ((pt == payload_types.red) ≡ false)

other_type : (payload : List ℕ) (pt : ℕ) (payload_types : PayloadTypes) → IsOther payload_types pt → red payload pt payload_types ≡ Err red_faults.WrongType
unfolding red_within
other_type payload pt payload_types o = ap (λ b. cond b (texts_at [] payload) (cond (pt == payload_types.red) (headers_at 8 payload_types.t140 payload >>= λ hs. texts_at hs.headers hs.texts) (Err red_faults.WrongType))) o.0
    ∙ ap (λ b. cond b (headers_at 8 payload_types.t140 payload >>= λ hs. texts_at hs.headers hs.texts) (Err red_faults.WrongType)) o.1

-- ---- a record that is none of the stream
module _ (ssrc : ℕ) (payload_types : PayloadTypes) (t140 : is_dynamic payload_types.t140 ≡ true) (red_type : is_dynamic payload_types.red ≡ true) where
  -- the type of a packet of this SSRC that is none of the stream
  type_is_other : (octets : List ℕ) (h : Reading) → rtp octets ≡ Ok h → (h.ssrc == ssrc) ≡ true → is_name ssrc (stream_of payload_types (sort_of_what (Whole octets))) ≡ false → IsOther payload_types h.pt
  type_is_other octets h e s n = go (is_rtcp octets) refl (ap (λ q. is_name ssrc (stream_of payload_types (cond (is_rtcp octets) sorts.Rtcp (headed q)))) (sym e) ∙ n)
    where
      same : h.pt ≡ slice_index octets 1 % 128
      same = type_read octets h (header_read octets h e)

      by_type : (b : Bool) → is_of_text payload_types h ≡ b → is_name ssrc (cond b (Some h.ssrc) None) ≡ false → IsOther payload_types h.pt
      by_type true t m = absurd (true≢false (sym s ∙ m))
      by_type false t m = neither (h.pt == payload_types.t140) (h.pt == payload_types.red) t

      go : (b : Bool) → is_rtcp octets ≡ b → is_name ssrc (stream_of payload_types (cond b sorts.Rtcp (sorts.Headed h))) ≡ false → IsOther payload_types h.pt
      go true r m = (ap (λ k. k == payload_types.t140) same ∙ rtcp_type (slice_index octets 1) payload_types.t140 r t140, ap (λ k. k == payload_types.red) same ∙ rtcp_type (slice_index octets 1) payload_types.red r red_type)
      go false r m = by_type (is_of_text payload_types h) refl m

  abbrev IsRefused : Result Packet TextFault → Type 0
  IsRefused r = (fault : TextFault) × (r ≡ Err fault)

  refused_short : (octets : List ℕ) → is_name ssrc (stream_of payload_types (sort_of_what (Whole octets))) ≡ false → IsRefused (text_of_short octets (Some ssrc) payload_types)
  unfolding short_within
  refused_short octets n = by_header (rtp octets) refl
    where
      blocks_of : Reading → Result Packet TextFault
      blocks_of r = refused_as blocks_fault (red r.payload r.pt payload_types) >>= λ blocks. Ok (text_packet r blocks)

      by_ssrc : (h : Reading) → rtp octets ≡ Ok h → (a b : Bool) → (h.ssrc == ssrc) ≡ a → IsRefused (cond a (cond b (Err Sources) (Ok h)) (Err Foreign) >>= blocks_of)
      by_ssrc h e false b s = (Foreign, refl)
      by_ssrc h e true true s = (Sources, refl)
      by_ssrc h e true false s = (WrongType, ap (λ x. refused_as blocks_fault x >>= λ blocks. Ok (text_packet h blocks)) (other_type h.payload h.pt payload_types (type_is_other octets h e s n)))

      by_header : (q : Result Reading RtpFault) → rtp octets ≡ q → IsRefused (refused_as header_fault q >>= λ reading. accepted (Some ssrc) reading >>= blocks_of)
      by_header (Err f) e = (header_fault f, refl)
      by_header (Ok h) e = by_ssrc h e (h.ssrc == ssrc) (nat_lt 1 h.cc) refl

  refused : (octets : List ℕ) → is_name ssrc (stream_of payload_types (sort_of_what (Whole octets))) ≡ false → IsRefused (text_of octets (Some ssrc) payload_types)
  unfolding text_within
  refused octets n = go (nat_lt MOST_PACKET_OCTETS (length octets))
    where
      go : (b : Bool) → IsRefused (cond b (Err Long) (text_of_short octets (Some ssrc) payload_types))
      go true = (Long, refl)
      go false = refused_short octets n

  none_arrives : (item : Item) (before : List Arrival) → is_name ssrc (stream_of payload_types (sort_of item)) ≡ false → arrivals_with ssrc payload_types item before ≡ before
  none_arrives item before n = go item.what n
    where
      go : (w : What) → is_name ssrc (stream_of payload_types (sort_of_what w)) ≡ false → arrivals_with ssrc payload_types (record { time = item.time; what = w }) before ≡ before
      go (Whole octets) m = ap (λ r. arrived item.time r before) (refused octets m).1
      go dumps.Rtcp m = refl
      go dumps.Cut m = refl
      go dumps.Large m = refl

  same_arrivals : (before : List Arrival) (items : List Item) → arrivals_after ssrc payload_types before (stream payload_types ssrc items) ≡ arrivals_after ssrc payload_types before items
  same_arrivals before [] = refl
  same_arrivals before (item ∷ items) = go (is_name ssrc (stream_of payload_types (sort_of item))) refl (λ past. same_arrivals past items)
    where
      go : (b : Bool) → is_name ssrc (stream_of payload_types (sort_of item)) ≡ b → ((past : List Arrival) → arrivals_after ssrc payload_types past (stream payload_types ssrc items) ≡ arrivals_after ssrc payload_types past items)
          → arrivals_after ssrc payload_types before (cond b (item ∷ stream payload_types ssrc items) (stream payload_types ssrc items)) ≡ arrivals_after ssrc payload_types (arrivals_with ssrc payload_types item before) items
      go true e more = more (arrivals_with ssrc payload_types item before)
      go false e more = more before ∙ ap (λ past. arrivals_after ssrc payload_types past items) (sym (none_arrives item before e))

-- what arrives of the stream x
pub arrives_alike : (payload_types : PayloadTypes) (ssrc : ℕ) (items : List Item) → is_dynamic payload_types.t140 ≡ true → is_dynamic payload_types.red ≡ true → arrivals_after ssrc payload_types [] (stream payload_types ssrc items) ≡ arrivals_after ssrc payload_types [] items
arrives_alike payload_types ssrc items t r = same_arrivals ssrc payload_types t r [] items
