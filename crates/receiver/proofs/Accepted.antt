-- What is accepted as a packet of text has texts in UTF-8.
use Rattle.std.proofs.Common.{◌≡◌, ℕ, ◌+◌, Bool, true, false, cond, Option, List, [], ◌∷◌, refl, Result, Ok, Err}
use Rattle.std.specs.Prelude.{IsUtf8, length, nat_lt, ◌==◌}
use Rattle.std.specs.Str.{is_utf8}
use Rattle.std.proofs.lemmas.Str.{IsUtf8-nil, IsUtf8-from_is_utf8}
use Rattle.std.proofs.lemmas.Bool.{and_parts}
use Rattle.rtt_base.specs.declared.blocks.TextBlock.{TextBlock}
use Rattle.rtt_base.specs.declared.text_packets.PayloadTypes.{PayloadTypes}
use Rattle.wire_spec.specs.declared.faults.TextFault.TheVariants as text_faults
use Rattle.wire_spec.specs.declared.faults.RedFault.TheVariants as red_faults
use Rattle.rtt_base.specs.Steps.{◌>>=◌}
use Rattle.rtt_base.proofs.Steps.{bind_ok}
use Rattle.wire_spec.specs.Packets.{Packet, redundant, primary_text, IsTextPacket, AreTextBlocks}
use Rattle.wire_spec.specs.Rtp.{rtp}
use Rattle.wire_spec.specs.Red.{all_utf8, blocks_at, checked, headers_at, older_size, red, red_within, texts_at, texts_within}
use Rattle.wire_spec.specs.Text.{accepted, refused_as, short_within, text_of, text_of_short, text_packet, text_within}
use Rattle.wire_spec.specs.declared.headers.RedHeader.{RedHeader}
use Rattle.wire_spec.specs.Faults.{header_fault, blocks_fault}
use Rattle.rtt_base.specs.declared.limits.TheConstants.{MOST_PACKET_OCTETS}
use Rattle.wire_spec.proofs.Plain.{refused_ok}

-- behind a test that refuses, and behind one that accepts
past_refusal : {A E : Type 0} (b : Bool) (d : E) (r : Result A E) (y : A) → cond b (Err d) r ≡ Ok y → r ≡ Ok y
past_refusal true d r y e = absurd (cc)
past_refusal false d r y e = e

past_acceptance : {A E : Type 0} (b : Bool) (d : E) (r : Result A E) (y : A) → cond b r (Err d) ≡ Ok y → r ≡ Ok y
past_acceptance true d r y e = e
past_acceptance false d r y e = absurd (cc)

checked_ok : (blocks bs : List TextBlock) → checked blocks ≡ Ok bs → all_utf8 bs ≡ true
checked_ok blocks bs e = go (all_utf8 blocks) refl e
  where
    go : (t : Bool) → all_utf8 blocks ≡ t → cond t (Ok blocks) (Err red_faults.NotText) ≡ Ok bs → all_utf8 bs ≡ true
    go true h f = let same : blocks ≡ bs = cc in rw (← same) h
    go false h f = absurd (cc)

-- texts that are read
texts_ok : (most : ℕ) (hs : List RedHeader) (octets : List ℕ) (bs : List TextBlock) → texts_within most hs octets ≡ Ok bs → all_utf8 bs ≡ true
unfolding texts_within
texts_ok most hs octets bs e =
    checked_ok (blocks_at hs octets) bs (past_refusal (nat_lt (older_size hs + most) (length octets)) red_faults.Long _ bs
    (past_refusal (nat_lt (length octets) (older_size hs)) red_faults.Cut _ bs e))

red_ok : (most : ℕ) (octets : List ℕ) (pt : ℕ) (payload_types : PayloadTypes) (bs : List TextBlock) → red_within most octets pt payload_types ≡ Ok bs → all_utf8 bs ≡ true
unfolding red_within
red_ok most octets pt payload_types bs e = go (pt == payload_types.t140) e
  where
    go : (t : Bool) → cond t (texts_within most [] octets) (cond (pt == payload_types.red) (headers_at 8 payload_types.t140 octets >>= λ hs. texts_within most hs.headers hs.texts) (Err red_faults.WrongType)) ≡ Ok bs → all_utf8 bs ≡ true
    go true f = texts_ok most [] octets bs f
    go false f =
        let h = bind_ok (headers_at 8 payload_types.t140 octets) (λ hs. texts_within most hs.headers hs.texts) bs (past_acceptance (pt == payload_types.red) red_faults.WrongType _ bs f) in
        texts_ok most h.0.headers h.0.texts bs h.2

texts_of : (bs : List TextBlock) → all_utf8 bs ≡ true → AreTextBlocks (redundant bs) × IsUtf8 (primary_text bs)
texts_of [] e = (tt, IsUtf8-nil)
texts_of (b ∷ []) e = (tt, IsUtf8-from_is_utf8 b.text (and_parts _ _ e).0)
texts_of (b ∷ c ∷ bs) e =
    let parts = and_parts (is_utf8 b.text) (all_utf8 (c ∷ bs)) e in
    let rest = texts_of (c ∷ bs) parts.1 in
    ((IsUtf8-from_is_utf8 b.text parts.0, rest.0), rest.1)

short_ok : (most : ℕ) (octets : List ℕ) (asked : Option ℕ) (payload_types : PayloadTypes) (p : Packet) → short_within most octets asked payload_types ≡ Ok p → IsTextPacket p
unfolding short_within
short_ok most octets asked payload_types p e =
    let a = bind_ok (refused_as header_fault (rtp octets)) (λ reading. accepted asked reading >>= λ r. refused_as blocks_fault (red_within most r.payload r.pt payload_types) >>= λ blocks. Ok (text_packet r blocks)) p e in
    let b = bind_ok (accepted asked a.0) (λ r. refused_as blocks_fault (red_within most r.payload r.pt payload_types) >>= λ blocks. Ok (text_packet r blocks)) p a.2 in
    let c = bind_ok (refused_as blocks_fault (red_within most b.0.payload b.0.pt payload_types)) (λ blocks. Ok (text_packet b.0 blocks)) p b.2 in
    let same : text_packet b.0 c.0 ≡ p = cc in
    let texts = texts_of c.0 (red_ok most b.0.payload b.0.pt payload_types c.0 (refused_ok blocks_fault _ c.0 c.1)) in
    rw (← same) (record { older = texts.0; primary = texts.1 })

pub accepted_text : (most : ℕ) (octets : List ℕ) (asked : Option ℕ) (payload_types : PayloadTypes) (p : Packet) → text_within most octets asked payload_types ≡ Ok p → IsTextPacket p
unfolding text_within
accepted_text most octets asked payload_types p e = short_ok most octets asked payload_types p (past_refusal (nat_lt MOST_PACKET_OCTETS (length octets)) text_faults.Long _ p e)
