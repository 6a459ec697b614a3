-- The steps of a sender.
use Rattle.std.proofs.Common.{◌≡◌, ℕ, ◌+◌, ◌<◌, ◌≤◌, ◌^◌, true, false, Some, Result, Ok, Err, List, [], ◌∷◌, ◌++◌, length, drop, refl, ap, subst, sym, ◌∙◌, arith}
use Rattle.std.specs.Prelude.{min, ◌==◌, IfSome, IsUtf8, IsOk, OnOk}
use Rattle.std.proofs.lemmas.Bool.Decides.{nat_tests}
use Rattle.rtt_base.specs.Buffers.{Appends}
use Rattle.wire_spec.specs.Packets.{has_text}
use Rattle.stream_spec.specs.Own.{Sent, sent_of, nth, has_text_in, Sendable}
use Rattle.stream_spec.specs.Typed.{Event, Text, Ask, Turned, sents, longest_step, media_at, entry_at, due_at, last_ask, whole_front, IsScript}
use Rattle.stream_spec.proofs.Typing.{waits_more, waits_less, entries_more, paced}
use Rattle.stream_spec.proofs.Fitting.{few_octets}
use Rattle.packetizer.specs.Speakers.{IsNext, text_of}
use Rattle.packetizer.specs.Sending.{OfNext, octets_of}
use Rattle.packetizer.specs.OutputStanding as standing
use Rattle.packetizer.specs.OutputStates as outputs
use Rattle.packetizer.specs.declared.senders.SenderSettings.{SenderSettings}
use Rattle.packetizer.specs.declared.senders.Last.{Last}
use Rattle.packetizer.specs.SenderSettings.{AreSettings, stream_of, output_of}
use Rattle.packetizer.specs.SenderStates.{State}
use Rattle.packetizer.specs.SenderStanding.{SenderStandsFor, sent_by, waits_for, last_of}
use Rattle.packetizer.specs.Scripts.{octets_due}
use Rattle.rtt_base.specs.declared.limits.TheConstants.{MOST_PACKET_OCTETS, MOST_TEXT_OCTETS}

pub no_text : (w : List ℕ) → (length w == 0) ≡ true → has_text w ≡ false
no_text [] e = refl
no_text (x ∷ w) e = grind (arith, nat_tests)

pub media_more : (g : ℕ) (es : List Turned) (l : Last) (t : ℕ) → Some l ≡ last_of es → has_text_in g (sents es) ≡ true → min t (l.media + longest_step g) ≡ media_at g es t
media_more g [] l t e h = cc e
media_more g (f ∷ es) l t e h = rw h (let m : l.media ≡ f.sent.media = cc e in omega arith)

pub media_now : (g : ℕ) (es : List Turned) (t : ℕ) → has_text_in g (sents es) ≡ false → t ≡ media_at g es t
media_now g [] t h = refl
media_now g (f ∷ es) t h = rw h refl

pub more_typed : (settings : SenderSettings) (past : List Event) (s new : State) (text : List ℕ) → IsUtf8 text → SenderStandsFor settings s past
    → new ≡ record s { waits = s.waits ++ text } → SenderStandsFor settings new (Text text ∷ past)
more_typed settings past s new text u r e = record {
  script = (u, r.script);
  settings_is = ap (λ (x : State). x.settings) e ∙ r.settings_is;
  waits = ap (λ (x : State). x.waits) e ∙ (ap (λ (w : List ℕ). w ++ text) r.waits ∙ sym (waits_more (stream_of settings) settings.interval past text));
  output = subst (λ (o : outputs.State). standing.PacketizerStandsFor (output_of settings) (settings.ssrc ∷ []) o (sents (sent_by settings past))) (sym (ap (λ (x : State). x.output) e)) r.output;
  last = ap (λ (x : State). x.last) e ∙ r.last;
}

-- ---- a packet
pub length_sents : (es : List Turned) → length (sents es) ≡ length es
length_sents [] = refl
length_sents (e ∷ es) = let r = length_sents es in omega arith

-- the entry at `now`
abbrev pub next_entry : SenderSettings → List Event → ℕ → Turned
next_entry settings past now = entry_at (stream_of settings) (sent_by settings past) (waits_for settings past) now

-- what is sent at `now` may be sent
pub may_send : (settings : SenderSettings) (past : List Event) (now : ℕ) → AreSettings settings → IsScript (Ask now ∷ past) → due_at (stream_of settings) settings.interval past now ≡ true
    → Sendable (stream_of settings) ((next_entry settings past now).sent ∷ sents (sent_by settings past))
may_send settings past now k s d =
    let c = stream_of settings in
    let p = paced c settings.interval (Ask now ∷ past) k.generations (let l = k.least in omega arith) s in
    subst (λ (es : List Turned). Sendable c (sents es)) (entries_more c settings.interval past now d) p.sendable

pub own_sents : (settings : SenderSettings) (past : List Event) → AreSettings settings → IsScript past → sent_of settings.ssrc (sents (sent_by settings past)) ≡ sents (sent_by settings past)
own_sents settings past k s = (paced (stream_of settings) settings.interval past k.generations (let l = k.least in omega arith) s).own

near_last : (g : ℕ) (es : List Turned) (t : ℕ) → has_text_in g (sents es) ≡ true → IfSome (nth 0 (sents es)) (λ last. media_at g es t ≤ last.media + longest_step g)
near_last g [] t h = tt
near_last g (f ∷ es) t h = rw h (omega arith)

-- and the output takes it
pub is_next : (settings : SenderSettings) (past : List Event) (now : ℕ) → AreSettings settings → IsScript (Ask now ∷ past) → due_at (stream_of settings) settings.interval past now ≡ true
    → IsNext (stream_of settings) (sents (sent_by settings past)) (next_entry settings past now).sent
is_next settings past now k s d =
    let m = (may_send settings past now k s d).0 in
    let near = near_last settings.generations (sent_by settings past) now in
    record {
      later = m.later;
      near = subst (λ (zs : List Sent). has_text_in settings.generations zs ≡ true → IfSome (nth 0 zs) (λ last. media_at settings.generations (sent_by settings past) now ≤ last.media + longest_step settings.generations)) (sym (own_sents settings past k s.2)) near;
      text = m.text;
    }

entry_is : (settings : SenderSettings) (past : List Event) (now media : ℕ) (text : List ℕ) → media ≡ media_at settings.generations (sent_by settings past) now → text ≡ whole_front MOST_TEXT_OCTETS (waits_for settings past)
    → text_of (settings.ssrc ∷ []) 0 media text ≡ (next_entry settings past now).sent
entry_is settings past now media text m t = rw (m, t) refl

-- octets that are few enough are taken by an empty packet
taken : {T E P : Type 0} (before after octets : List ℕ) (result : Result T E) → before ≡ [] → length octets ≤ MOST_PACKET_OCTETS → Appends (Some MOST_PACKET_OCTETS) before after octets result → OnOk result P
    → (after ≡ octets) × P
taken {T} {E} {P} before after octets result e few a then = go result (a.room.1 (omega (arith, few, ap (λ (xs : List ℕ). length xs) e))) a.ok then
  where
    go : (r : Result T E) → IsOk r → OnOk r (after ≡ before ++ octets) → OnOk r P → (after ≡ octets) × P
    go (Ok v) i p q = (p ∙ ap (λ (xs : List ℕ). xs ++ octets) e, q)
    go (Err v) i p q = cc i

-- the packet at `now` is sent whole
pub sent_whole : {T E : Type 0} (settings : SenderSettings) (past : List Event) (now media : ℕ) (text before after : List ℕ) (old new : outputs.State) (result : Result T E) → AreSettings settings → IsScript (Ask now ∷ past)
    → due_at (stream_of settings) settings.interval past now ≡ true → media ≡ media_at settings.generations (sent_by settings past) now → text ≡ whole_front MOST_TEXT_OCTETS (waits_for settings past) → before ≡ []
    → standing.PacketizerStandsFor (output_of settings) (settings.ssrc ∷ []) old (sents (sent_by settings past))
    → OfNext old 0 media text (λ c sources sent e. Appends (Some MOST_PACKET_OCTETS) before after (octets_of c sent e) result)
    → OfNext old 0 media text (λ c sources sent e. OnOk result (standing.PacketizerStandsFor c sources new (e ∷ sent)))
    → (after ≡ octets_due settings past now) × standing.PacketizerStandsFor (output_of settings) (settings.ssrc ∷ []) new ((next_entry settings past now).sent ∷ sents (sent_by settings past))
sent_whole settings past now media text before after old new result k s d m t e r packet stands =
    let es = sents (sent_by settings past) in
    let c = output_of settings in
    let sources : List ℕ = settings.ssrc ∷ [] in
    let entry = entry_is settings past now media text m t in
    let next = subst (λ (x : Sent). IsNext (stream_of settings) es x) (sym entry) (is_next settings past now k s d) in
    let few = few_octets settings.payload_types (stream_of settings) es (next_entry settings past now).sent k.generations (may_send settings past now k s d) in
    taken before after (octets_due settings past now) result e few
    (subst (λ (x : Sent). Appends (Some MOST_PACKET_OCTETS) before after (octets_of c es x) result) entry (packet c sources es r next))
    (subst (λ (x : Sent). OnOk result (standing.PacketizerStandsFor c sources new (x ∷ es))) entry (stands c sources es r next))

pub turned : (settings : SenderSettings) (past : List Event) (now : ℕ) (s new : State) (text : List ℕ) → SenderStandsFor settings s past → last_ask past ≤ now → now < 2 ^ 31
    → due_at (stream_of settings) settings.interval past now ≡ true → new.settings ≡ s.settings → text ≡ whole_front MOST_TEXT_OCTETS s.waits → new.waits ≡ drop (length text) s.waits
    → standing.PacketizerStandsFor (output_of settings) (settings.ssrc ∷ []) new.output ((next_entry settings past now).sent ∷ sents (sent_by settings past))
    → new.last ≡ Some (record { at = now; media = media_at settings.generations (sent_by settings past) now }) → SenderStandsFor settings new (Ask now ∷ past)
turned settings past now s new text r l top d cs f w out last =
    let c = stream_of settings in
    let more = entries_more c settings.interval past now d in
    record {
      script = (l, top, r.script);
      settings_is = cs ∙ r.settings_is;
      waits = w ∙ (ap (λ (t : List ℕ). drop (length t) s.waits) f ∙ (ap (λ (v : List ℕ). drop (length (whole_front MOST_TEXT_OCTETS v)) v) r.waits ∙ sym (waits_less c settings.interval past now d)));
      output = subst (λ (es : List Turned). standing.PacketizerStandsFor (output_of settings) (settings.ssrc ∷ []) new.output (sents es)) (sym more) out;
      last = last ∙ sym (ap last_of more);
    }
