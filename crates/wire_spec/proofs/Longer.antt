-- What is read where a primary text may have so many octets is read the same where it may have more.
use Rattle.std.proofs.Common.{◌≡◌, ℕ, ◌+◌, ◌≤◌, Bool, true, false, cond, List, [], length, Option, Result, Ok, Err, refl, ap, ◌∙◌, arith}
use Rattle.std.specs.Prelude.{nat_lt, ◌==◌}
use Rattle.std.proofs.lemmas.Bool.{le-ltb, ltb-false}
use Rattle.rtt_base.specs.Steps.{◌>>=◌}
use Rattle.rtt_base.proofs.Steps.{bind_ok}
use Rattle.rtt_base.specs.declared.blocks.TextBlock.{TextBlock}
use Rattle.rtt_base.specs.declared.text_packets.PayloadTypes.{PayloadTypes}
use Rattle.wire_spec.specs.declared.faults.TextFault.TheVariants as text_fault
use Rattle.wire_spec.specs.declared.faults.RedFault.TheVariants.{WrongType, Cut, Long}
use Rattle.wire_spec.specs.declared.headers.RedHeader.{RedHeader}
use Rattle.wire_spec.specs.Faults.{header_fault, blocks_fault}
use Rattle.wire_spec.specs.Packets.{Packet}
use Rattle.wire_spec.specs.Rtp.{rtp}
use Rattle.wire_spec.specs.Red.{blocks_at, checked, headers_at, older_size, red_within, texts_within}
use Rattle.wire_spec.specs.Text.{accepted, refused_as, short_within, text_packet, text_within}
use Rattle.wire_spec.proofs.Plain.{refused_ok}
use Rattle.rtt_base.specs.declared.limits.TheConstants.{MOST_PACKET_OCTETS}

-- what comes of a step comes of another, where it does so of each that went well
bind_other : {A B E : Type 0} (r : Result A E) (f g : A → Result B E) (y : B) → ((x : A) → f x ≡ Ok y → g x ≡ Ok y) → (r >>= f) ≡ Ok y → (r >>= g) ≡ Ok y
bind_other (Ok x) f g y h e = h x e
bind_other (Err d) f g y h e = absurd (cc e)

texts_longer : (most more : ℕ) (hs : List RedHeader) (octets : List ℕ) (blocks : List TextBlock) → most ≤ more → texts_within most hs octets ≡ Ok blocks → texts_within more hs octets ≡ Ok blocks
unfolding texts_within
texts_longer most more hs octets blocks l e = go (nat_lt (length octets) (older_size hs)) (nat_lt (older_size hs + most) (length octets)) refl e
  where
    go : (a b : Bool) → nat_lt (older_size hs + most) (length octets) ≡ b → cond a (Err Cut) (cond b (Err Long) (checked (blocks_at hs octets))) ≡ Ok blocks
        → cond a (Err Cut) (cond (nat_lt (older_size hs + more) (length octets)) (Err Long) (checked (blocks_at hs octets))) ≡ Ok blocks
    go true b q e = absurd (cc e)
    go false true q e = absurd (cc e)
    go false false q e =
        let few = ltb-false (older_size hs + most) (length octets) q in
        ap (λ b. cond b (Err Long) (checked (blocks_at hs octets))) (le-ltb (older_size hs + more) (length octets) (omega (arith, few, l))) ∙ e

red_longer : (most more : ℕ) (octets : List ℕ) (pt : ℕ) (payload_types : PayloadTypes) (blocks : List TextBlock) → most ≤ more → red_within most octets pt payload_types ≡ Ok blocks → red_within more octets pt payload_types ≡ Ok blocks
unfolding red_within
red_longer most more octets pt payload_types blocks l e = go (pt == payload_types.t140) (pt == payload_types.red) e
  where
    go : (a b : Bool) → cond a (texts_within most [] octets) (cond b (headers_at 8 payload_types.t140 octets >>= λ hs. texts_within most hs.headers hs.texts) (Err WrongType)) ≡ Ok blocks
        → cond a (texts_within more [] octets) (cond b (headers_at 8 payload_types.t140 octets >>= λ hs. texts_within more hs.headers hs.texts) (Err WrongType)) ≡ Ok blocks
    go true b e = texts_longer most more [] octets blocks l e
    go false true e =
        bind_other (headers_at 8 payload_types.t140 octets) (λ hs. texts_within most hs.headers hs.texts) (λ hs. texts_within more hs.headers hs.texts) blocks
        (λ hs f. texts_longer most more hs.headers hs.texts blocks l f) e
    go false false e = absurd (cc e)

pub text_longer : (most more : ℕ) (octets : List ℕ) (asked : Option ℕ) (payload_types : PayloadTypes) (p : Packet) → most ≤ more → text_within most octets asked payload_types ≡ Ok p → text_within more octets asked payload_types ≡ Ok p
unfolding text_within short_within
text_longer most more octets asked payload_types p l e = go (nat_lt MOST_PACKET_OCTETS (length octets)) e
  where
    short : (refused_as header_fault (rtp octets) >>= λ reading. accepted asked reading >>= λ r. refused_as blocks_fault (red_within most r.payload r.pt payload_types) >>= λ blocks. Ok (text_packet r blocks)) ≡ Ok p
        → (refused_as header_fault (rtp octets) >>= λ reading. accepted asked reading >>= λ r. refused_as blocks_fault (red_within more r.payload r.pt payload_types) >>= λ blocks. Ok (text_packet r blocks)) ≡ Ok p
    short e = bind_other (refused_as header_fault (rtp octets)) _ _ p (λ reading f. bind_other (accepted asked reading) _ _ p (λ r g.
        let c = bind_ok (refused_as blocks_fault (red_within most r.payload r.pt payload_types)) (λ blocks. Ok (text_packet r blocks)) p g in
        ap (λ o. refused_as blocks_fault o >>= λ blocks. Ok (text_packet r blocks))
        (red_longer most more r.payload r.pt payload_types c.0 l (refused_ok blocks_fault (red_within most r.payload r.pt payload_types) c.0 c.1)) ∙ c.2) f) e

    go : (b : Bool) → cond b (Err text_fault.Long) (short_within most octets asked payload_types) ≡ Ok p → cond b (Err text_fault.Long) (short_within more octets asked payload_types) ≡ Ok p
    go true e = absurd (cc e)
    go false e = short e
