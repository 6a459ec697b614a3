-- What a sender sends over a whole script.
use Rattle.std.proofs.Common.{◌≡◌, ℕ, ◌+◌, Bool, true, false, cond, Some, None, List, [], ◌∷◌, ◌++◌, length, append_assoc, refl, ap, subst, sym, ◌∙◌, arith, append-nil as nil}
use Rattle.std.specs.Prelude.{◌||◌, ◌&&◌, nat_le}
use Rattle.std.specs.List.{flat_map}
use Rattle.wire_spec.specs.Packets.{has_text}
use Rattle.stream_spec.specs.Lists.{In}
use Rattle.stream_spec.specs.History.{Entry, Placed, placed, Lawful}
use Rattle.stream_spec.specs.Own.{Sent, Own, Closed, sent_of, has_text_in, entry_after, entries_sent, sent_history, own_packet, packet_after}
use Rattle.stream_spec.specs.Typed.{Event, Ask, Turned, sents, carried, typed, has_passed, due_at, packet_at, IsScript, next_at, primaries}
use Rattle.stream_spec.proofs.Sent.{the_last, sent_lawful, sent_own, in_sent_of}
use Rattle.stream_spec.proofs.Typing.{typed_is, entries_more, entries_same, waits_same, paced}
use Rattle.stream_spec.proofs.Closing.{last_is, sent_closed}
use Rattle.packetizer.specs.declared.senders.SenderSettings.{SenderSettings}
use Rattle.packetizer.specs.SenderSettings.{AreSettings, stream_of}
use Rattle.packetizer.specs.SenderStanding.{sent_by, waits_for, has_more, next_due_of, history_sent}
use Rattle.packetizer.proofs.Sending.{next_entry, length_sents}
use Rattle.std.proofs.lemmas.Bool.{or_parts as or_none}

one_text : (es : List Entry) (e : Entry) → flat_map (λ x. x.text) (es ++ e ∷ []) ≡ flat_map (λ x. x.text) es ++ e.text
one_text [] e = nil e.text
one_text (f ∷ es) e = ap (λ (xs : List ℕ). f.text ++ xs) (one_text es e) ∙ sym (append_assoc f.text (flat_map (λ x. x.text) es) e.text)

pub carried_is : (g : ℕ) (es : List Turned) → flat_map (λ x. x.text) (entries_sent g (sents es)) ≡ carried es
carried_is g [] = refl
carried_is g (e ∷ es) = one_text (entries_sent g (sents es)) (entry_after g (sents es) e.sent) ∙ ap (λ (xs : List ℕ). xs ++ e.sent.text) (carried_is g es)

pub all_sent : (settings : SenderSettings) (past : List Event) → typed past ≡ primaries (history_sent settings past) ++ waits_for settings past
all_sent settings past = typed_is (stream_of settings) settings.interval past ∙ ap (λ (xs : List ℕ). xs ++ waits_for settings past) (sym (carried_is settings.generations (sent_by settings past)))

pub lawful : (settings : SenderSettings) (past : List Event) → AreSettings settings → IsScript past → Lawful (history_sent settings past)
lawful settings past k s = sent_lawful (stream_of settings) (sents (sent_by settings past)) k.generations (paced (stream_of settings) settings.interval past k.generations (let l = k.least in omega arith) s).sendable

pub own : (settings : SenderSettings) (past : List Event) → Own settings.generations (history_sent settings past)
own settings past = sent_own (stream_of settings) (sents (sent_by settings past))

pub own_packets : (settings : SenderSettings) (past : List Event) (t : ℕ) → due_at (stream_of settings) settings.interval past t ≡ true
    → (x : Placed) × In x (placed (history_sent settings (Ask t ∷ past))) × (x.place ≡ length (sent_by settings past))
    × (packet_at (stream_of settings) settings.interval past t ≡ Some (own_packet (history_sent settings (Ask t ∷ past)) x))
own_packets settings past t d =
    let c = stream_of settings in
    let es = sent_by settings past in
    let e = next_entry settings past t in
    let more = entries_more c settings.interval past t d in
    let l = last_is c (sents es) e.sent in
    let x = the_last c (sents es) e.sent in (
      x,
      subst (λ (fs : List Turned). In x (placed (sent_history c (sents fs)))) (sym more) l.is_in,
      l.place ∙ length_sents es,
      ap (λ b. cond b (Some (packet_after c (sents es) e.sent)) None) d ∙ (ap (λ p. Some p) (sym l.packet) ∙ ap (λ (fs : List Turned). Some (own_packet (sent_history c (sents fs)) x)) (sym more)),
    )

pub empty : (w : List ℕ) → has_text w ≡ false → w ≡ []
empty [] h = refl
empty (x ∷ w) h = cc h

pub end_sent : (settings : SenderSettings) (past : List Event) → has_more settings past ≡ false → typed past ≡ primaries (history_sent settings past)
end_sent settings past h =
    let n = or_none (has_text (waits_for settings past)) (has_text_in settings.generations (sents (sent_by settings past))) h in
    all_sent settings past ∙ (ap (λ (xs : List ℕ). primaries (history_sent settings past) ++ xs) (empty (waits_for settings past) n.0) ∙ nil (primaries (history_sent settings past)))

pub end_closed : (settings : SenderSettings) (past : List Event) → AreSettings settings → IsScript past → has_more settings past ≡ false → Closed settings.generations (history_sent settings past)
end_closed settings past k s h =
    let n = or_none (has_text (waits_for settings past)) (has_text_in settings.generations (sents (sent_by settings past))) h in
    let p = paced (stream_of settings) settings.interval past k.generations (let l = k.least in omega arith) s in
    sent_closed (stream_of settings) (sents (sent_by settings past))
    (λ z i. let q = in_sent_of settings.ssrc (sents (sent_by settings past)) z (subst (λ (zs : List Sent). In z zs) (sym p.own) i) in
    ap (λ m. has_text_in settings.generations (sent_of m (sents (sent_by settings past)))) q.1 ∙ (ap (λ (zs : List Sent). has_text_in settings.generations zs) p.own ∙ n.1))

passed_from : (interval : ℕ) (es : List Turned) (m t : ℕ) → next_at interval es ≡ Some m → has_passed interval es t ≡ nat_le m t
passed_from interval [] m t e = cc e
passed_from interval (f ∷ es) m t e = let q : f.at + interval ≡ m = cc e in ap (λ k. nat_le k t) q

pub due_from : (settings : SenderSettings) (past : List Event) (m t : ℕ) → next_due_of settings past ≡ Some m → due_at (stream_of settings) settings.interval past t ≡ nat_le m t
due_from settings past m t e = go (has_more settings past) e
  where
    go : (b : Bool) → cond b (next_at settings.interval (sent_by settings past)) None ≡ Some m → (b && has_passed settings.interval (sent_by settings past) t) ≡ nat_le m t
    go true q = passed_from settings.interval (sent_by settings past) m t q
    go false q = cc q

no_entry : (interval : ℕ) (es : List Turned) → next_at interval es ≡ None → es ≡ []
no_entry interval [] e = refl
no_entry interval (f ∷ es) e = cc e

pub none_due : (settings : SenderSettings) (past : List Event) (t : ℕ) → next_due_of settings (Ask t ∷ past) ≡ None → has_more settings (Ask t ∷ past) ≡ false
none_due settings past t e = go (has_more settings (Ask t ∷ past)) refl
  where
    and_true : (b : Bool) → (b && true) ≡ b
    and_true true = refl
    and_true false = refl

    quiet : due_at (stream_of settings) settings.interval past t ≡ false → sent_by settings (Ask t ∷ past) ≡ [] → has_more settings (Ask t ∷ past) ≡ false
    quiet d q =
        let c = stream_of settings in
        let same = entries_same c settings.interval past t d in
        let none : sent_by settings past ≡ [] = sym same ∙ q in
        let less : has_more settings past ≡ false = sym (ap (λ (es : List Turned). has_more settings past && has_passed settings.interval es t) none ∙ and_true (has_more settings past)) ∙ d in
        ap (λ (w : List ℕ). has_text w || has_text_in settings.generations (sents (sent_by settings (Ask t ∷ past)))) (waits_same c settings.interval past t d)
        ∙ (ap (λ (es : List Turned). has_text (waits_for settings past) || has_text_in settings.generations (sents es)) same ∙ less)

    by_due : (b : Bool) → due_at (stream_of settings) settings.interval past t ≡ b → sent_by settings (Ask t ∷ past) ≡ [] → has_more settings (Ask t ∷ past) ≡ false
    by_due true d q = let more = entries_more (stream_of settings) settings.interval past t d in cc (more, q)
    by_due false d q = quiet d q

    go : (b : Bool) → has_more settings (Ask t ∷ past) ≡ b → has_more settings (Ask t ∷ past) ≡ false
    go false h = h
    go true h =
        let n : next_at settings.interval (sent_by settings (Ask t ∷ past)) ≡ None = sym (ap (λ b. cond b (next_at settings.interval (sent_by settings (Ask t ∷ past))) None) h) ∙ e in
        by_due (due_at (stream_of settings) settings.interval past t) refl (no_entry settings.interval (sent_by settings (Ask t ∷ past)) n)
