-- The steps of an output.
use Rattle.std.proofs.Common.{◌≡◌, ℕ, zero, suc, ◌+◌, ◌%◌, ◌<◌, ◌≤◌, ◌^◌, Bool, true, false, cond, inl, inr, List, [], ◌∷◌, ◌++◌, length, take, get_or, set, refl, ap, subst, sym, ◌∙◌, arith}
use Rattle.std.specs.Prelude.{map, max, not, ◌&&◌, ◌||◌, ◌==◌, IfSome, Option, None, Some, Result, Ok, Err, IsOk, OnOk}
use Rattle.std.proofs.lemmas.Bool.Decides.{nat_tests}
use Rattle.std.proofs.lemmas.List.{length-append}
use Rattle.rtt_base.specs.declared.blocks.TextBlock.{TextBlock}
use Rattle.rtt_base.specs.Buffers.{Appends}
use Rattle.wire_spec.specs.Packets.{Packet, has_text}
use Rattle.wire_spec.specs.SentPackets.{packet_written}
use Rattle.stream_spec.specs.Lists.{In}
use Rattle.stream_spec.specs.Own.{Sent, Stream, sent_of, nth, has_text_in, packet_after, MaySend, Sendable}
use Rattle.stream_spec.specs.Typed.{longest_step}
use Rattle.stream_spec.proofs.Sent.{in_sent_of, take_in, text_in}
use Rattle.packetizer.specs.Kept.{blocks_kept}
use Rattle.packetizer.specs.WindowStanding.{MayFollow}
use Rattle.packetizer.specs.WindowStanding as window
use Rattle.packetizer.proofs.Repeating.{last_or_more, repeats_are}
use Rattle.packetizer.specs.declared.outputs.PacketizerSettings.{PacketizerSettings}
use Rattle.packetizer.specs.declared.speakers.Speaker.{Speaker}
use Rattle.packetizer.specs.OutputSettings.{AreSettings, stream_of}
use Rattle.packetizer.specs.Speakers.{AreDistinct, IsNext, EachIsNext, anew, speaker_at}
use Rattle.packetizer.specs.OutputStates.{State}
use Rattle.packetizer.specs.OutputStanding.{PacketizerStandsFor, speaker_of, source_at}
use Rattle.rtt_base.specs.declared.limits.TheConstants.{MOST_PACKET_OCTETS}
use Rattle.stream_spec.proofs.Typing.{take_more, steps, fits_offset}

-- ---- what is sent may be sent
-- where text of these is still to be repeated, the media time is at most the longest step after the last one
abbrev Link : ℕ → ℕ → List Sent → Type 0
Link g media [] = Unit {0}
Link g media (z ∷ zs) = has_text_in g (z ∷ zs) ≡ true → media ≤ z.media + longest_step g

abbrev Chain : ℕ → List Sent → Type 0
Chain g [] = Unit {0}
Chain g (z ∷ zs) = Link g z.media zs × Chain g zs

link_of : (g media : ℕ) (zs : List Sent) → (has_text_in g zs ≡ true → IfSome (nth 0 zs) (λ last. media ≤ last.media + longest_step g)) → Link g media zs
link_of g media [] f = tt
link_of g media (z ∷ zs) f = f

chain_of : (c : Stream) (past : List Sent) (s : ℕ) → EachIsNext c past → Chain c.generations (sent_of s past)
chain_of c [] s p = tt
chain_of c (e ∷ past) s p = go (e.source == s) refl (chain_of c past s p.1)
  where
    go : (b : Bool) → (e.source == s) ≡ b → Chain c.generations (sent_of s past) → Chain c.generations (cond b (e ∷ sent_of s past) (sent_of s past))
    go true q r =
        let same : e.source ≡ s = grind (arith, nat_tests) in
        (subst (λ (n : ℕ). Link c.generations e.media (sent_of n past)) same (link_of c.generations e.media (sent_of e.source past) p.0.near), r)
    go false q r = r

-- each of the last k with text lies at most k steps before
within_steps : (g k media : ℕ) (zs : List Sent) → k ≤ g → Link g media zs → Chain g zs → (x : Sent) → In x (take k zs) → has_text x.text ≡ true → media ≤ x.media + steps k (longest_step g)
within_steps g zero media zs l n p x i h = absurd i
within_steps g (suc k) media [] l n p x i h = absurd i
within_steps g (suc k) media (z ∷ zs) l n p x i h =
    let near = n (text_in g (z ∷ zs) x (take_more (suc k) g (z ∷ zs) x l i) h) in
    elim i [
      | inl q ↦ omega (arith, near, ap (λ (y : Sent). y.media) q)
      | inr j ↦ let r = within_steps g k z.media zs (omega arith) p.0 p.1 x j h in omega (arith, near, r)
    ]

pub may_send : (c : Stream) (past : List Sent) (e : Sent) → c.generations ≤ 3 → EachIsNext c past → IsNext c past e → MaySend c past e
may_send c past e l p n = record {
  later = n.later;
  near = λ x i h. let r = within_steps c.generations c.generations e.media (sent_of e.source past) (omega arith) (link_of c.generations e.media (sent_of e.source past) n.near) (chain_of c past e.source p) x i h in omega (arith, r, fits_offset c.generations l);
  text = n.text;
}

pub sendable : (c : Stream) (past : List Sent) → c.generations ≤ 3 → EachIsNext c past → Sendable c past
sendable c [] l p = tt
sendable c (e ∷ past) l p = (may_send c past e l p.1 p.0, sendable c past l p.1)

-- ---- the packet
-- what was appended made it longer
pub more_written : {T E : Type 0} (r : Result T E) (before after octets : List ℕ) → 0 < length octets → OnOk r (after ≡ before ++ octets) → OnOk r (length before < length after)
more_written (Ok x) before after octets some is = let same = ap (λ (xs : List ℕ). length xs) is ∙ length-append before octets in omega (arith, some, same)
more_written (Err x) before after octets some is = tt

-- so few octets are not refused where there is room for as many as a packet has at most
pub has_room : {T E : Type 0} (greatest : Option ℕ) (before after octets : List ℕ) (r : Result T E) → length octets ≤ MOST_PACKET_OCTETS → Appends greatest before after octets r
    → IfSome greatest (λ most. length before + MOST_PACKET_OCTETS ≤ most → IsOk r)
has_room None before after octets r few a = tt
has_room (Some most) before after octets r few a = λ l. a.room.1 (omega (arith, few, l))

may_follow : (c : Stream) (past : List Sent) (e : Sent) → MaySend c past e → MayFollow c.generations e.media (sent_of e.source past)
may_follow c past e m = record {
  later = λ x i. m.later x (in_sent_of e.source past x (take_in c.generations (sent_of e.source past) x i)).0;
  near = m.near;
}

pub pause_is : (g : ℕ) (zs : List Sent) (due spoke result : Bool) → due ≡ has_text_in g zs → spoke ≡ has_text_in 1 zs → result ≡ (not due && not spoke) → result ≡ not (has_text_in (max 1 g) zs)
pause_is g zs due spoke result d s r = r ∙ (both due spoke ∙ (ap (λ b. not (b || spoke)) d ∙ (ap (λ b. not (has_text_in g zs || b)) s ∙ ap (λ b. not b) (last_or_more g zs))))
  where
    both : (a b : Bool) → (not a && not b) ≡ not (a || b)
    both true b = refl
    both false b = refl

same_packet : (m m' : Bool) (s s' t t' c c' o o' : ℕ) (bs bs' : List TextBlock) (x : List ℕ) → m ≡ m' → s ≡ s' → t ≡ t' → c ≡ c' → o ≡ o' → bs ≡ bs'
    → (let p : Packet = record { marker_bit = m; seq = s; timestamp = t; ssrc = c; source = o; older = bs; primary = x } in p) ≡ record { marker_bit = m'; seq = s'; timestamp = t'; ssrc = c'; source = o'; older = bs'; primary = x }
same_packet m m' s s' t t' c c' o o' bs bs' x a b d e f g = rw (a, b, d, e, f, g) refl

-- the packet of what is written is that of the text
pub packet_is : (settings given : PacketizerSettings) (past : List Sent) (e : Sent) (speaker : Speaker) (marker_bit : Bool) (seq timestamp : ℕ) → AreSettings settings → given ≡ settings → EachIsNext (stream_of settings) past → IsNext (stream_of settings) past e
    → speaker ≡ speaker_of settings past e.source → marker_bit ≡ not (has_text_in (max 1 settings.generations) (sent_of e.source past)) → seq ≡ (settings.seq + length past) % 65536 → timestamp ≡ (settings.timestamp + e.media) % 2 ^ 32
    → packet_written given.payload_types (record { marker_bit = marker_bit; seq = seq; timestamp = timestamp; ssrc = given.ssrc; source = speaker.source; older = blocks_kept timestamp speaker.window; primary = e.text })
    ≡ packet_written settings.payload_types (packet_after (stream_of settings) past e)
packet_is settings given past e speaker marker_bit seq timestamp k q p n w m s t =
    let a = packet_after (stream_of settings) past e in
    let kept : window.WindowStandsFor settings.generations settings.timestamp speaker.window (sent_of e.source past) = record { last = ap (λ (x : Speaker). x.window) w } in
    let older = repeats_are settings.generations settings.timestamp e.media timestamp speaker.window (sent_of e.source past) kept t (may_follow (stream_of settings) past e (may_send (stream_of settings) past e k.generations p n)) in
    let same = same_packet marker_bit a.marker_bit seq a.seq timestamp a.timestamp given.ssrc settings.ssrc speaker.source e.source (blocks_kept timestamp speaker.window) a.older e.text m s t (ap (λ (x : PacketizerSettings). x.ssrc) q) (ap (λ (x : Speaker). x.source) w) older in
    ap (packet_written given.payload_types) same ∙ ap (λ (x : PacketizerSettings). packet_written x.payload_types a) q

-- ---- the sources
pub speaker_there : (settings : PacketizerSettings) (past : List Sent) (sources : List ℕ) (i : ℕ) (d : Speaker) → i < length sources → get_or (map (speaker_of settings past) sources) i d ≡ speaker_of settings past (source_at sources i)
speaker_there settings past [] i d l = absurd (omega arith)
speaker_there settings past (s ∷ sources) zero d l = refl
speaker_there settings past (s ∷ sources) (suc i) d l = speaker_there settings past sources i d (omega arith)

source_in : (sources : List ℕ) (i : ℕ) → i < length sources → In (source_at sources i) sources
source_in [] i l = absurd (omega arith)
source_in (s ∷ sources) zero l = inl refl
source_in (s ∷ sources) (suc i) l = inr (source_in sources i (omega arith))

-- nothing changes of another source
other_stays : (settings : PacketizerSettings) (past : List Sent) (e : Sent) (t : ℕ) → (e.source ≡ t → ⊥) → speaker_of settings past t ≡ speaker_of settings (e ∷ past) t
other_stays settings past e t n = go (e.source == t) refl
  where
    go : (b : Bool) → (e.source == t) ≡ b → speaker_at settings.generations settings.timestamp t (sent_of t past) ≡ speaker_at settings.generations settings.timestamp t (cond b (e ∷ sent_of t past) (sent_of t past))
    go true q = absurd (n (let same : e.source ≡ t = grind (arith, nat_tests) in same))
    go false q = refl

others_stay : (settings : PacketizerSettings) (past : List Sent) (e : Sent) (sources : List ℕ) → ((t : ℕ) → In t sources → e.source ≡ t → ⊥) → map (speaker_of settings past) sources ≡ map (speaker_of settings (e ∷ past)) sources
others_stay settings past e [] n = refl
others_stay settings past e (t ∷ sources) n = rw (other_stays settings past e t (n t (inl refl)), others_stay settings past e sources (λ u i. n u (inr i))) refl

-- one source has sent a text
pub speakers_after : (settings : PacketizerSettings) (past : List Sent) (e : Sent) (sources : List ℕ) (i : ℕ) (speaker : Speaker) → AreDistinct sources → i < length sources → e.source ≡ source_at sources i
    → speaker ≡ speaker_of settings (e ∷ past) e.source → set (map (speaker_of settings past) sources) i speaker ≡ map (speaker_of settings (e ∷ past)) sources
speakers_after settings past e [] i speaker a l q w = absurd (omega arith)
speakers_after settings past e (s ∷ sources) zero speaker a l q w =
    rw (others_stay settings past e sources (λ t j r. a.0 t j (sym q ∙ r))) (ap (λ (x : Speaker). x ∷ map (speaker_of settings (e ∷ past)) sources) (w ∙ ap (speaker_of settings (e ∷ past)) q))
speakers_after settings past e (s ∷ sources) (suc i) speaker a l q w =
    let there = source_in sources i (omega arith) in
    rw (other_stays settings past e s (λ r. a.0 (source_at sources i) there (sym r ∙ q))) (ap (λ (xs : List Speaker). speaker_of settings (e ∷ past) s ∷ xs) (speakers_after settings past e sources i speaker a.1 (omega arith) q w))

pub own_sent : (e : Sent) (past : List Sent) → sent_of e.source (e ∷ past) ≡ e ∷ sent_of e.source past
own_sent e past = let same : (e.source == e.source) ≡ true = grind (arith, nat_tests) in rw same refl

pub kept_after : (settings : PacketizerSettings) (sources : List ℕ) (past : List Sent) (e : Sent) (i : ℕ) (s new : State) (speaker : Speaker) → PacketizerStandsFor settings sources s past → IsNext (stream_of settings) past e → i < length sources
    → e.source ≡ source_at sources i → speaker ≡ speaker_at settings.generations settings.timestamp e.source (e ∷ sent_of e.source past) → new.settings ≡ s.settings → new.seq ≡ (s.seq + 1) % 65536
    → new.speakers ≡ set s.speakers i speaker → PacketizerStandsFor settings sources new (e ∷ past)
kept_after settings sources past e i s new speaker r n l q w c k u = record {
  sent = (n, r.sent);
  distinct = r.distinct;
  settings_is = c ∙ r.settings_is;
  seq = counted s.seq new.seq settings.seq (length past) r.seq k;
  speakers = u ∙ (ap (λ (xs : List Speaker). set xs i speaker) r.speakers
      ∙ speakers_after settings past e sources i speaker r.distinct l q (w ∙ ap (λ (zs : List Sent). speaker_at settings.generations settings.timestamp e.source zs) (sym (own_sent e past))));
}
  where
    counted : (old new first n : ℕ) → old ≡ (first + n) % 65536 → new ≡ (old + 1) % 65536 → new ≡ (first + suc n) % 65536
    counted old new first n p q = omega arith

-- ---- within the sources
pub map_length : (settings : PacketizerSettings) (past : List Sent) (sources : List ℕ) → length (map (speaker_of settings past) sources) ≡ length sources
map_length settings past [] = refl
map_length settings past (s ∷ sources) = let r = map_length settings past sources in omega (arith, r)

pub within : (settings : PacketizerSettings) (sources : List ℕ) (s : State) (past : List Sent) (i : ℕ) → PacketizerStandsFor settings sources s past → i < length s.speakers → i < length sources
within settings sources s past i r l = omega (arith, l, ap (λ (xs : List Speaker). length xs) r.speakers, map_length settings past sources)

pub speaker_is : (settings : PacketizerSettings) (sources : List ℕ) (s : State) (past : List Sent) (i : ℕ) (x : Speaker) → PacketizerStandsFor settings sources s past → i < length s.speakers → x ≡ get_or s.speakers i x
    → x ≡ speaker_of settings past (source_at sources i)
speaker_is settings sources s past i x r l e = e ∙ (ap (λ (xs : List Speaker). get_or xs i x) r.speakers ∙ speaker_there settings past sources i x (within settings sources s past i r l))

-- ---- a new output
pub new_speakers : (settings : PacketizerSettings) (sources : List ℕ) (i : ℕ) (x : Speaker) → i < length sources → x ≡ speaker_of settings [] (get_or sources i 0)
    → map (speaker_of settings []) (take i sources) ++ x ∷ [] ≡ map (speaker_of settings []) (take (i + 1) sources)
new_speakers settings [] i x l e = absurd (omega arith)
new_speakers settings (s ∷ sources) zero x l e = ap (λ (y : Speaker). y ∷ []) e
new_speakers settings (s ∷ sources) (suc i) x l e =
    let k : suc i + 1 ≡ suc (i + 1) = omega arith in
    ap (λ (xs : List Speaker). speaker_of settings [] s ∷ xs) (new_speakers settings sources i x (omega arith) e) ∙ ap (λ n. map (speaker_of settings []) (take n (s ∷ sources))) (sym k)

pub all_taken : (settings : PacketizerSettings) (sources : List ℕ) (i : ℕ) → length sources ≤ i → map (speaker_of settings []) (take i sources) ≡ map (speaker_of settings []) sources
all_taken settings [] zero l = refl
all_taken settings [] (suc i) l = refl
all_taken settings (s ∷ sources) zero l = absurd (omega arith)
all_taken settings (s ∷ sources) (suc i) l = ap (λ (xs : List Speaker). speaker_of settings [] s ∷ xs) (all_taken settings sources i (omega arith))

-- ---- an output that has sent nothing again
forgotten : (settings : PacketizerSettings) (past : List Sent) (sources : List ℕ) → map (anew settings.generations settings.timestamp) (map (speaker_of settings past) sources) ≡ map (speaker_of settings []) sources
forgotten settings past [] = refl
forgotten settings past (s ∷ sources) = ap (λ (xs : List Speaker). speaker_of settings [] s ∷ xs) (forgotten settings past sources)

pub restarts : (settings : PacketizerSettings) (sources : List ℕ) (s : State) (past : List Sent) (speakers : List Speaker) → PacketizerStandsFor settings sources s past → s.settings.seq < 65536
    → ((base : ℕ) → speakers ≡ map (anew s.settings.generations base) s.speakers) → PacketizerStandsFor settings sources (record { settings = s.settings; seq = s.settings.seq; speakers = speakers }) []
restarts settings sources s past speakers r fits all = record {
  sent = tt;
  distinct = r.distinct;
  settings_is = r.settings_is;
  seq = omega (arith, fits, ap (λ (x : PacketizerSettings). x.seq) r.settings_is);
  speakers = all settings.timestamp
      ∙ (ap (λ (x : PacketizerSettings). map (anew x.generations settings.timestamp) s.speakers) r.settings_is
      ∙ (ap (λ (xs : List Speaker). map (anew settings.generations settings.timestamp) xs) r.speakers ∙ forgotten settings past sources));
}
