-- The packets of a stream of at most three generations have octets, and few.
use Rattle.std.proofs.Common.{◌≡◌, ℕ, zero, suc, ◌+◌, ◌-◌, ◌<◌, ◌≤◌, ◌^◌, ◌≢◌, Bool, true, false, cond, Option, None, Some, inl, inr, List, [], ◌∷◌, length, take, refl, subst, sym, arith}
use Rattle.std.specs.Prelude.{min, IsUtf8}
use Rattle.std.specs.List.{AllByRecursion}
use Rattle.std.proofs.lemmas.Str.{IsUtf8-nil}
use Rattle.rtt_base.specs.declared.text_packets.PayloadTypes.{PayloadTypes}
use Rattle.wire_spec.specs.Packets.{has_text}
use Rattle.wire_spec.specs.Red.{IsRedundant}
use Rattle.wire_spec.specs.SentPackets.{packet_written, FitsPacket}
use Rattle.stream_spec.specs.Lists.{In}
use Rattle.stream_spec.specs.Own.{Sent, Stream, sent_of, nth, repeat_of, repeats, Sendable, packet_after}
use Rattle.stream_spec.proofs.Sent.{in_sent_of}
use Rattle.rtt_base.specs.declared.limits.TheConstants.{MOST_PACKET_OCTETS, MOST_TEXT_OCTETS}
use Rattle.stream_spec.proofs.Sent.{nth_in, take_in}
use Rattle.wire_spec.proofs.Sizes.{packet_size, redundant_short}

text_sent : (c : Stream) (zs : List Sent) (z : Sent) → Sendable c zs → In z zs → (length z.text ≤ MOST_TEXT_OCTETS) × IsUtf8 z.text
text_sent c [] z s i = absurd i
text_sent c (y ∷ zs) z s (inl q) = subst (λ (x : Sent). (length x.text ≤ MOST_TEXT_OCTETS) × IsUtf8 x.text) (sym q) s.0.text
text_sent c (y ∷ zs) z s (inr i) = text_sent c zs z s.1 i

-- what was sent may be repeated at this media time
abbrev IsNearText : ℕ → Sent → Type 0
IsNearText media z = ((length z.text ≤ MOST_TEXT_OCTETS) × IsUtf8 z.text) × (has_text z.text ≡ true → media ≤ z.media + 16383)

redundant_is : (media : ℕ) (o : Option Sent) → ((z : Sent) → o ≡ Some z → IsNearText media z) → IsRedundant (repeat_of media o)
redundant_is media None f = (omega arith, (omega arith, IsUtf8-nil))
redundant_is media (Some z) f = let t = f z refl in (go (has_text z.text) t.1, (omega (arith, t.0.0), t.0.1))
  where
    go : (b : Bool) → (b ≡ true → media ≤ z.media + 16383) → cond b (media - z.media) (min 16383 (media - z.media)) < 2 ^ 14
    go true n = let l = n refl in omega arith
    go false n = omega arith

older_fits : (k g media : ℕ) (zs : List Sent) → k ≤ g → ((z : Sent) → In z (take g zs) → IsNearText media z) → AllByRecursion IsRedundant (repeats k media zs)
older_fits zero g media zs l f = tt
older_fits (suc k) g media zs l f = (redundant_is media (nth k zs) (λ z e. f z (nth_in k g zs z e (omega arith))), older_fits k g media zs (omega arith) f)

older_count : (g media : ℕ) (zs : List Sent) → length (repeats g media zs) ≡ g
older_count zero media zs = refl
older_count (suc g) media zs = let r = older_count g media zs in omega (arith, r)

near_each : (c : Stream) (past : List Sent) (e : Sent) → Sendable c (e ∷ past) → (z : Sent) → In z (take c.generations (sent_of e.source past)) → IsNearText e.media z
near_each c past e s z i = (text_sent c past z s.1 (in_sent_of e.source past z (take_in c.generations (sent_of e.source past) z i)).0, s.0.near z i)

pub packet_fits : (payload_types : PayloadTypes) (c : Stream) (past : List Sent) (e : Sent) → payload_types.t140 < 2 ^ 7 → payload_types.red < 2 ^ 7 → payload_types.t140 ≢ payload_types.red → c.generations ≤ 3 → c.ssrc < 2 ^ 32 → e.source < 2 ^ 32 → Sendable c (e ∷ past)
    → FitsPacket payload_types (packet_after c past e)
packet_fits payload_types c past e t r d l ssrc source s = record {
  seq = omega arith;
  timestamp = omega arith;
  ssrc = ssrc;
  source = source;
  few = omega (arith, older_count c.generations e.media (sent_of e.source past));
  older = older_fits c.generations c.generations e.media (sent_of e.source past) (omega arith) (near_each c past e s);
  primary = (omega (arith, s.0.text.0), s.0.text.1);
  t140 = t;
  red = r;
  differ = d;
}

pub few_octets : (payload_types : PayloadTypes) (c : Stream) (past : List Sent) (e : Sent) → c.generations ≤ 3 → Sendable c (e ∷ past) → length (packet_written payload_types (packet_after c past e)) ≤ MOST_PACKET_OCTETS
few_octets payload_types c past e l s =
    let older = older_fits c.generations c.generations e.media (sent_of e.source past) (omega arith) (near_each c past e s) in
    packet_size payload_types (packet_after c past e) (redundant_short (repeats c.generations e.media (sent_of e.source past)) older) (omega (arith, l, older_count c.generations e.media (sent_of e.source past))) s.0.text.0
