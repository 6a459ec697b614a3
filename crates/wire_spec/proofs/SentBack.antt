-- A packet that is sent is read back, in either form.
use Rattle.std.proofs.Common.{◌≡◌, ℕ, ◌<◌, ◌≤◌, ◌^◌, Bool, true, false, cond, ltb, List, [], ◌∷◌, ◌++◌, length, Option, None, Some, Result, Ok, refl, ap, subst, sym, arith}
use Rattle.std.specs.Prelude.{◌==◌, option_to_list, unwrap_or, IfSome}
use Rattle.std.proofs.lemmas.Bool.{le-ltb}
use Rattle.std.proofs.lemmas.Bool.Decides.{nat_tests}
use Rattle.rtt_base.specs.declared.blocks.TextBlock.{TextBlock}
use Rattle.rtt_base.specs.declared.text_packets.PayloadTypes.{PayloadTypes}
use Rattle.wire_spec.specs.declared.faults.TextFault.{TextFault}
use Rattle.wire_spec.specs.Packets.{Packet, redundant, primary_text, primary, blocks_of}
use Rattle.wire_spec.specs.Rtp.{FitsHeader}
use Rattle.std.specs.List.{AllByRecursion}
use Rattle.wire_spec.specs.Red.{Red, IsRedundant, red}
use Rattle.wire_spec.specs.Text.{is_asked, short_within, text_of, text_of_short, text_within}
use Rattle.wire_spec.specs.SentPackets.{csrc_of, type_sent, payload_sent, head_of, packet_written, FitsPacket}
use Rattle.wire_spec.proofs.Written.{rtp_read_back}
use Rattle.wire_spec.proofs.BlockLaws.{red_only}
use Rattle.rtt_base.specs.declared.limits.TheConstants.{MOST_PACKET_OCTETS}

-- ---- the blocks
pub redundant_front : (older : List TextBlock) (b : TextBlock) → redundant (older ++ b ∷ []) ≡ older
redundant_front [] b = refl
redundant_front (x ∷ []) b = refl
redundant_front (x ∷ y ∷ older) b = ap (λ (bs : List TextBlock). x ∷ bs) (redundant_front (y ∷ older) b)

pub primary_last : (older : List TextBlock) (b : TextBlock) → primary_text (older ++ b ∷ []) ≡ b.text
primary_last [] b = refl
primary_last (x ∷ []) b = refl
primary_last (x ∷ y ∷ older) b = primary_last (y ∷ older) b

payload_is : (payload_types : PayloadTypes) (p : Packet) → FitsPacket payload_types p → (older : List TextBlock) → p.older ≡ older → Red (payload_sent payload_types older p.primary) (type_sent payload_types older) payload_types (older ++ primary p.primary ∷ [])
payload_is payload_types p f [] e = record { plain = λ q. record { all = refl; is_text = f.primary }; red = λ n. absurd (n refl) }
payload_is payload_types p f (b ∷ older) e = record {
  plain = λ q. absurd (f.differ (sym q));
  red = λ n. (
    refl,
    record {
      older = b ∷ older;
      text = p.primary;
      all = refl;
      parts = refl;
      few = omega (arith, f.few, ap (λ (bs : List TextBlock). length bs) e);
      each = subst (AllByRecursion IsRedundant) e f.older;
      is_text = f.primary;
      t140_fits = f.t140;
    },
  );
}

blocks_back : (payload_types : PayloadTypes) (p : Packet) → FitsPacket payload_types p → red (payload_sent payload_types p.older p.primary) (type_sent payload_types p.older) payload_types ≡ Ok (blocks_of p)
blocks_back payload_types p f = red_only (payload_sent payload_types p.older p.primary) (type_sent payload_types p.older) payload_types (blocks_of p) (payload_is payload_types p f p.older refl)

-- ---- the header
type_fits : (payload_types : PayloadTypes) (older : List TextBlock) → payload_types.t140 < 2 ^ 7 → payload_types.red < 2 ^ 7 → type_sent payload_types older < 2 ^ 7
type_fits payload_types [] t r = t
type_fits payload_types (b ∷ older) t r = r

source_fits : (b : Bool) (source : ℕ) → source < 2 ^ 32 → IfSome (cond b None (Some source)) (λ s. s < 2 ^ 32)
source_fits true source l = tt
source_fits false source l = l

source_back : (source ssrc : ℕ) → unwrap_or (cond (source == ssrc) None (Some source)) ssrc ≡ source
source_back source ssrc = go (source == ssrc) refl
  where
    go : (b : Bool) → (source == ssrc) ≡ b → unwrap_or (cond b None (Some source)) ssrc ≡ source
    go true e = grind (arith, nat_tests)
    go false e = refl

pub one_source : (csrc : Option ℕ) → length (option_to_list csrc) ≤ 1
one_source None = omega arith
one_source (Some source) = omega arith

head_fits : (payload_types : PayloadTypes) (p : Packet) → FitsPacket payload_types p → FitsHeader (head_of payload_types p)
head_fits payload_types p f = record { pt = type_fits payload_types p.older f.t140 f.red; seq = f.seq; timestamp = f.timestamp; ssrc = f.ssrc; csrc = source_fits (p.source == p.ssrc) p.source f.source }

same_packet : (p : Packet) (source : ℕ) (older : List TextBlock) (text : List ℕ) → source ≡ p.source → older ≡ p.older → text ≡ p.primary
    → (let r : Result Packet TextFault = Ok (record { marker_bit = p.marker_bit; seq = p.seq; timestamp = p.timestamp; ssrc = p.ssrc; source = source; older = older; primary = text }) in r) ≡ Ok p
same_packet p source older text a b c = rw (a, b, c) refl

pub sent_back : (payload_types : PayloadTypes) (p : Packet) (asked : Option ℕ) → FitsPacket payload_types p → is_asked asked p.ssrc ≡ true → length (packet_written payload_types p) ≤ MOST_PACKET_OCTETS
    → text_of (packet_written payload_types p) asked payload_types ≡ Ok p
unfolding text_within short_within
sent_back payload_types p asked f its short =
    let long : ltb MOST_PACKET_OCTETS (length (packet_written payload_types p)) ≡ false = le-ltb MOST_PACKET_OCTETS (length (packet_written payload_types p)) short in
    let sources : ltb 1 (length (option_to_list (csrc_of p))) ≡ false = le-ltb 1 (length (option_to_list (csrc_of p))) (one_source (csrc_of p)) in
    let read = rtp_read_back (head_of payload_types p) (payload_sent payload_types p.older p.primary) (head_fits payload_types p f) in
    rw (long, read, its, sources, blocks_back payload_types p f)
    (same_packet p _ _ _ (source_back p.source p.ssrc) (redundant_front p.older (primary p.primary)) (primary_last p.older (primary p.primary)))
