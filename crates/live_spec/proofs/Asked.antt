-- A packet of one SSRC is read alike, whether that is asked for or any is.
use Rattle.std.proofs.Common.{◌≡◌, ℕ, Bool, true, false, Some, None, List, Ok, Err, Result, refl, ap, sym, ◌∙◌}
use Rattle.std.specs.Prelude.{◌==◌, length, nat_lt, if◌then◌else◌}
use Rattle.std.proofs.lemmas.Bool.{eq-eqb}
use Rattle.rtt_base.specs.Steps.{◌>>=◌}
use Rattle.rtt_base.proofs.Steps.{bind_ok}
use Rattle.rtt_base.specs.declared.blocks.TextBlock.{TextBlock}
use Rattle.rtt_base.specs.declared.text_packets.PayloadTypes.{PayloadTypes}
use Rattle.rtt_base.specs.declared.limits.TheConstants.{MOST_PACKET_OCTETS}
use Rattle.wire_spec.specs.declared.faults.TextFault.{TextFault}
use Rattle.wire_spec.specs.declared.faults.TextFault.TheVariants.{Sources, Long, Foreign}
use Rattle.wire_spec.specs.declared.faults.RtpFault.{RtpFault}
use Rattle.wire_spec.specs.Faults.{header_fault, blocks_fault}
use Rattle.wire_spec.specs.Packets.{Packet}
use Rattle.wire_spec.specs.Red.{red_within}
use Rattle.wire_spec.specs.Rtp.{Reading, rtp}
use Rattle.wire_spec.specs.Text.{accepted, refused_as, short_within, text_packet, text_within}
pub use Rattle.std.proofs.lemmas.Bool.{eqb-true as eqb_true}

-- where a primary text has at most so many octets
module _ (most : ℕ) where
  -- ---- of a header that is read
  abbrev one_source : Reading → Result Reading TextFault
  one_source r = if nat_lt 1 r.cc then Err Sources else Ok r

  abbrev blocks_read : PayloadTypes → Reading → Result Packet TextFault
  blocks_read payload_types r = refused_as blocks_fault (red_within most r.payload r.pt payload_types) >>= λ blocks. Ok (text_packet r blocks)

  source_is : (r s : Reading) → one_source r ≡ Ok s → r ≡ s
  source_is r s e = go (nat_lt 1 r.cc) e
    where
      go : (b : Bool) → (if b then Err Sources else Ok r) ≡ Ok s → r ≡ s
      go true q = absurd (cc q)
      go false q = cc q

  ssrc_is : (payload_types : PayloadTypes) (r : Reading) (p : Packet) → (one_source r >>= blocks_read payload_types) ≡ Ok p → p.ssrc ≡ r.ssrc
  ssrc_is payload_types r p e =
      let a = bind_ok (one_source r) (blocks_read payload_types) p e in
      let b = bind_ok (refused_as blocks_fault (red_within most a.0.payload a.0.pt payload_types)) (λ (blocks : List TextBlock). Ok (text_packet a.0 blocks)) p a.2 in
      let same : text_packet a.0 b.0 ≡ p = cc b.2 in
      sym (ap (λ (q : Packet). q.ssrc) same) ∙ sym (ap (λ (q : Reading). q.ssrc) (source_is r a.0 a.1))

  abbrev Reads : PayloadTypes → (s : ℕ) → Result Reading RtpFault → Packet → Type 0
  Reads payload_types s header p = (refused_as header_fault header >>= λ reading. accepted (Some s) reading >>= blocks_read payload_types) ≡ Ok p

  abbrev ReadsAny : PayloadTypes → Result Reading RtpFault → Packet → Type 0
  ReadsAny payload_types header p = (refused_as header_fault header >>= λ reading. accepted None reading >>= blocks_read payload_types) ≡ Ok p

  own_read : (payload_types : PayloadTypes) (header : Result Reading RtpFault) (p : Packet) → ReadsAny payload_types header p → Reads payload_types p.ssrc header p
  own_read payload_types (Err f) p e = absurd (cc e)
  own_read payload_types (Ok r) p e = ap (λ (b : Bool). (if b then one_source r else Err Foreign) >>= blocks_read payload_types) (eq-eqb r.ssrc p.ssrc (sym (ssrc_is payload_types r p e))) ∙ e

  any_read : (payload_types : PayloadTypes) (s : ℕ) (header : Result Reading RtpFault) (p : Packet) → Reads payload_types s header p → ReadsAny payload_types header p × (p.ssrc ≡ s)
  any_read payload_types s (Err f) p e = absurd (cc e)
  any_read payload_types s (Ok r) p e = go (r.ssrc == s) refl e
    where
      go : (b : Bool) → (r.ssrc == s) ≡ b → ((if b then one_source r else Err Foreign) >>= blocks_read payload_types) ≡ Ok p → ((one_source r >>= blocks_read payload_types) ≡ Ok p) × (p.ssrc ≡ s)
      go true q e = (e, ssrc_is payload_types r p e ∙ eqb_true r.ssrc s q)
      go false q e = absurd (cc e)

  -- ---- of octets
  -- one that is read at all is read where its SSRC is asked for
  pub own_asked : (octets : List ℕ) (payload_types : PayloadTypes) (p : Packet) → text_within most octets None payload_types ≡ Ok p → text_within most octets (Some p.ssrc) payload_types ≡ Ok p
  unfolding text_within short_within
  own_asked octets payload_types p e = go (nat_lt MOST_PACKET_OCTETS (length octets)) e
    where
      go : (b : Bool) → (if b then Err Long else (refused_as header_fault (rtp octets) >>= λ reading. accepted None reading >>= blocks_read payload_types)) ≡ Ok p
          → (if b then Err Long else (refused_as header_fault (rtp octets) >>= λ reading. accepted (Some p.ssrc) reading >>= blocks_read payload_types)) ≡ Ok p
      go true q = absurd (cc q)
      go false q = own_read payload_types (rtp octets) p q

  -- one that is read where an SSRC is asked for has it
  pub any_asked : (octets : List ℕ) (s : ℕ) (payload_types : PayloadTypes) (p : Packet) → text_within most octets (Some s) payload_types ≡ Ok p → (text_within most octets None payload_types ≡ Ok p) × (p.ssrc ≡ s)
  unfolding text_within short_within
  any_asked octets s payload_types p e = go (nat_lt MOST_PACKET_OCTETS (length octets)) e
    where
      go : (b : Bool) → (if b then Err Long else (refused_as header_fault (rtp octets) >>= λ reading. accepted (Some s) reading >>= blocks_read payload_types)) ≡ Ok p
          → ((if b then Err Long else (refused_as header_fault (rtp octets) >>= λ reading. accepted None reading >>= blocks_read payload_types)) ≡ Ok p) × (p.ssrc ≡ s)
      go true q = absurd (cc q)
      go false q = any_read payload_types s (rtp octets) p q
