-- How long a sender that is given no more text goes on.
use Rattle.std.proofs.Common.{◌≡◌, ℕ, zero, suc, ◌+◌, ◌-◌, ◌*◌, ◌<◌, ◌≤◌, ◌^◌, Bool, true, false, cond, ◌⊎◌, inl, inr, List, [], ◌∷◌, length, take, drop, length-drop, refl, ap, subst, sym, ◌∙◌, arith}
use Rattle.std.specs.Prelude.{◌&&◌, ◌||◌, nat_le, min, All, IsUtf8}
use Rattle.std.proofs.lemmas.Bool.{cases_lt}
use Rattle.std.proofs.lemmas.Bool.Decides.{nat_tests}
use Rattle.wire_spec.specs.Packets.{has_text}
use Rattle.file_spec.specs.Script.{ScriptLine}
use Rattle.stream_spec.specs.Own.{Sent, has_text_in}
use Rattle.stream_spec.specs.Lists.{In}
use Rattle.stream_spec.specs.Typed.{Event, Ask, Turned, sents, whole_front, last_end, due_at, entry_at, has_passed, IsScript}
use Rattle.stream_spec.proofs.Typing.{entries_more, waits_less, waits_utf8, paced}
use Rattle.packetizer.specs.declared.senders.SenderSettings.{SenderSettings}
use Rattle.packetizer.specs.SenderSettings.{AreSettings, stream_of}
use Rattle.packetizer.specs.SenderStanding.{sent_by, waits_for, has_more}
use Rattle.command_spec.specs.Scripts.{events_before, events_until, events_through}
use Rattle.text_conversions.proofs.Events.{before_suc, until_later, script_on, asked_until}
use Rattle.text_conversions.proofs.Asking.{idle, no_more}
use Rattle.text_conversions.proofs.SendFronts.{some_front}
use Rattle.rtt_base.specs.declared.limits.TheConstants.{MOST_TEXT_OCTETS}
use Rattle.stream_spec.specs.declared.limits.TheConstants.{MOST_WAITING_OCTETS}
use Rattle.wire_spec.proofs.Plain.{and_left as and_first}

-- ---- the packets that are left, at most
-- so many repeats are left of what was sent
abbrev rank : ℕ → List Sent → ℕ
rank zero zs = 0
rank (suc g) zs = cond (has_text_in (suc g) zs) 1 0 + rank g zs

abbrev weight : ℕ → List Turned → List ℕ → ℕ
weight g es w = 4 * length w + rank g (sents es)

rank_le : (g : ℕ) (zs : List Sent) → rank g zs ≤ g
rank_le zero zs = omega arith
rank_le (suc g) zs = let r = rank_le g zs in let c = go (has_text_in (suc g) zs) in omega (arith, r, c)
  where
    go : (b : Bool) → cond b 1 0 ≤ 1
    go true = omega arith
    go false = omega arith

rank_after : (g : ℕ) (e : Sent) (zs : List Sent) → has_text e.text ≡ false → rank (suc g) (e ∷ zs) ≡ rank g zs
rank_after zero e zs h = rw h refl
rank_after (suc g) e zs h =
    let more : has_text_in (suc (suc g)) (e ∷ zs) ≡ has_text_in (suc g) zs = rw h refl in
    let r = rank_after g e zs h in
    ap (λ b. cond b 1 0 + rank (suc g) (e ∷ zs)) more ∙ ap (λ n. cond (has_text_in (suc g) zs) 1 0 + n) r

rank_falls : (g : ℕ) (e : Sent) (zs : List Sent) → has_text e.text ≡ false → has_text_in g zs ≡ true → rank g (e ∷ zs) + 1 ≤ rank g zs
rank_falls zero e zs h d = cc d
rank_falls (suc g) e zs h d =
    let new = rank_after g e zs h in
    let old : rank (suc g) zs ≡ 1 + rank g zs = ap (λ b. cond b 1 0 + rank g zs) d in
    omega (arith, new, old)

empty : (w : List ℕ) → length w ≡ 0 → has_text w ≡ false
empty [] e = refl
empty (x ∷ w) e = absurd (omega arith)

no_octets : (w : List ℕ) → has_text w ≡ false → length w ≡ 0
no_octets [] h = refl
no_octets (x ∷ w) h = cc h

front_short : (w : List ℕ) → length (whole_front MOST_TEXT_OCTETS w) ≤ length w
front_short w = go (last_end w (min MOST_TEXT_OCTETS (length w))) w
  where
    go : (k : ℕ) (xs : List ℕ) → length (take k xs) ≤ length xs
    go zero xs = omega arith
    go (suc k) [] = omega arith
    go (suc k) (x ∷ xs) = let r = go k xs in omega arith

weight_falls : (g : ℕ) (es : List Turned) (e : Turned) (w : List ℕ) → g ≤ 3 → IsUtf8 w → e.sent.text ≡ whole_front MOST_TEXT_OCTETS w → (has_text w || has_text_in g (sents es)) ≡ true
    → weight g (e ∷ es) (drop (length (whole_front MOST_TEXT_OCTETS w)) w) + 1 ≤ weight g es w
weight_falls g es e w m u t h = go (has_text w) refl h
  where
    go : (b : Bool) → has_text w ≡ b → (b || has_text_in g (sents es)) ≡ true → weight g (e ∷ es) (drop (length (whole_front MOST_TEXT_OCTETS w)) w) + 1 ≤ weight g es w
    go true q d =
        let some = some_front w u q in
        let size = length-drop (length (whole_front MOST_TEXT_OCTETS w)) w in
        let short = front_short w in
        let new = rank_le g (sents (e ∷ es)) in
        omega (arith, some, size, short, new)
    go false q d =
        let none = no_octets w q in
        let short = front_short w in
        let no : has_text e.sent.text ≡ false = ap has_text t ∙ empty (whole_front MOST_TEXT_OCTETS w) (omega arith) in
        let size = length-drop (length (whole_front MOST_TEXT_OCTETS w)) w in
        let falls = rank_falls g e.sent (sents es) no d in
        omega (arith, size, falls)

-- ---- the milliseconds that are left, at most
abbrev remaining : ℕ → List Turned → ℕ → ℕ
remaining interval [] t = 0
remaining interval (e ∷ es) t = (e.at + interval) - t

abbrev potential : SenderSettings → List Event → ℕ → ℕ
potential settings past t = 1000 * weight settings.generations (sent_by settings past) (waits_for settings past) + remaining settings.interval (sent_by settings past) t

and_more : (a b : Bool) → a ≡ true → (a && b) ≡ false → b ≡ false
and_more true b h d = d
and_more false b h d = cc h

waits_on : (interval : ℕ) (es : List Turned) (t : ℕ) → has_passed interval es t ≡ false → remaining interval es (suc t) + 1 ≤ remaining interval es t
waits_on interval [] t h = cc h
waits_on interval (e ∷ es) t h = let l : t < e.at + interval = early (e.at + interval) t h in omega arith
  where
    early : (a b : ℕ) → nat_le a b ≡ false → b < a
    early a b q = grind (arith, nat_tests)

ask_falls : (settings : SenderSettings) (past : List Event) (t : ℕ) → AreSettings settings → IsUtf8 (waits_for settings past)
    → (has_more settings (Ask t ∷ past) ≡ false) ⊎ (potential settings (Ask t ∷ past) (suc t) + 1 ≤ potential settings past t)
ask_falls settings past t k u = go (due_at (stream_of settings) settings.interval past t) refl
  where
    sends : due_at (stream_of settings) settings.interval past t ≡ true → potential settings (Ask t ∷ past) (suc t) + 1 ≤ potential settings past t
    sends d =
        let c = stream_of settings in
        let es = sent_by settings past in
        let w = waits_for settings past in
        let e = entry_at c es w t in
        let falls = weight_falls settings.generations es e w k.generations u refl (and_first (has_more settings past) (has_passed settings.interval es t) d) in
        let is : potential settings (Ask t ∷ past) (suc t) ≡ 1000 * weight settings.generations (e ∷ es) (drop (length (whole_front MOST_TEXT_OCTETS w)) w) + ((t + settings.interval) - suc t) =
        ap (λ (fs : List Turned). 1000 * weight settings.generations fs (waits_for settings (Ask t ∷ past)) + remaining settings.interval fs (suc t)) (entries_more c settings.interval past t d)
        ∙ ap (λ (v : List ℕ). 1000 * weight settings.generations (e ∷ es) v + ((t + settings.interval) - suc t)) (waits_less c settings.interval past t d) in
        let l = k.least in
        let m = k.most in
        below (potential settings (Ask t ∷ past) (suc t)) (weight settings.generations (e ∷ es) (drop (length (whole_front MOST_TEXT_OCTETS w)) w)) (weight settings.generations es w) (remaining settings.interval es t) t settings.interval is falls l m
      where
        below : (p new old rest s i : ℕ) → p ≡ 1000 * new + ((s + i) - suc s) → new + 1 ≤ old → 100 ≤ i → i ≤ 1000 → p + 1 ≤ 1000 * old + rest
        below p new old rest s i q f l m = omega arith

    rests : due_at (stream_of settings) settings.interval past t ≡ false → (b : Bool) → has_more settings past ≡ b
        → (has_more settings (Ask t ∷ past) ≡ false) ⊎ (potential settings (Ask t ∷ past) (suc t) + 1 ≤ potential settings past t)
    rests d b h =
        let same = idle settings past t d in
        let more : has_more settings (Ask t ∷ past) ≡ has_more settings past =
        ap (λ (w : List ℕ). has_text w || has_text_in settings.generations (sents (sent_by settings (Ask t ∷ past)))) same.waits
        ∙ ap (λ (es : List Turned). has_text (waits_for settings past) || has_text_in settings.generations (sents es)) same.sent in
        let is : potential settings (Ask t ∷ past) (suc t) ≡ potential settings past (suc t) =
        ap (λ (w : List ℕ). 1000 * weight settings.generations (sent_by settings (Ask t ∷ past)) w + remaining settings.interval (sent_by settings (Ask t ∷ past)) (suc t)) same.waits
        ∙ ap (λ (es : List Turned). 1000 * weight settings.generations es (waits_for settings past) + remaining settings.interval es (suc t)) same.sent in
        case b h more is
      where
        case : (b : Bool) → has_more settings past ≡ b → has_more settings (Ask t ∷ past) ≡ has_more settings past → potential settings (Ask t ∷ past) (suc t) ≡ potential settings past (suc t)
            → (has_more settings (Ask t ∷ past) ≡ false) ⊎ (potential settings (Ask t ∷ past) (suc t) + 1 ≤ potential settings past t)
        case false q more is = inl (more ∙ q)
        case true q more is =
            let late = waits_on settings.interval (sent_by settings past) t (and_more (has_more settings past) (has_passed settings.interval (sent_by settings past) t) q d) in
            inr (sum (potential settings (Ask t ∷ past) (suc t)) (weight settings.generations (sent_by settings past) (waits_for settings past)) (remaining settings.interval (sent_by settings past) (suc t)) (remaining settings.interval (sent_by settings past) t) is late)
          where
            sum : (p n a b : ℕ) → p ≡ 1000 * n + a → a + 1 ≤ b → p + 1 ≤ 1000 * n + b
            sum p n a b q l = omega arith

    go : (b : Bool) → due_at (stream_of settings) settings.interval past t ≡ b → (has_more settings (Ask t ∷ past) ≡ false) ⊎ (potential settings (Ask t ∷ past) (suc t) + 1 ≤ potential settings past t)
    go true d = inr (sends d)
    go false d = rests d (has_more settings past) refl

-- where all lines were typed, each further ask takes a millisecond off, or nothing is left
left_at : (settings : SenderSettings) (lines : List ScriptLine) (now k : ℕ) → AreSettings settings → IsScript (events_until lines now) → All (λ l. l.at ≤ now) lines → now < k → k ≤ 2 ^ 31
    → (has_more settings (events_before lines k) ≡ false) ⊎ (potential settings (events_before lines k) k + k ≤ potential settings (events_until lines now) now + now)
left_at settings lines now zero c s a l m = absurd (omega arith)
left_at settings lines now (suc k) c s a l m =
    subst (λ (past : List Event). (has_more settings past ≡ false) ⊎ (potential settings past (suc k) + suc k ≤ potential settings (events_until lines now) now + now)) (sym (before_suc lines k)) (elim (cases_lt now k) [
      | inl lt ↦ (
          let on = script_on lines now k a lt (omega arith) s in
          let same = until_later lines now k a lt in
          subst (λ (past : List Event). (has_more settings (Ask k ∷ past) ≡ false) ⊎ (potential settings (Ask k ∷ past) (suc k) + suc k ≤ potential settings (events_until lines now) now + now)) (sym same)
          (next (events_before lines k) on (left_at settings lines now k c s a lt (omega arith))))
      | inr ge ↦ (
          let q : now ≡ k = omega arith in
          let script : IsScript (events_until lines k) = subst (λ n. IsScript (events_until lines n)) q s in
          elim (ask_falls settings (events_until lines k) k c (waits_utf8 (stream_of settings) settings.interval (events_until lines k) script)) [
            | inl none ↦ inl none
            | inr falls ↦ inr (first (potential settings (events_through lines k) (suc k)) (potential settings (events_until lines k) k) (potential settings (events_until lines now) now) k now (ap (λ n. potential settings (events_until lines n) n) (sym q)) q falls)
          ])
    ])
  where
    first : (p q r n m : ℕ) → q ≡ r → m ≡ n → p + 1 ≤ q → p + suc n ≤ r + m
    first p q r n m a b f = omega arith

    later : (p q r n m : ℕ) → p + 1 ≤ q → q + n ≤ r + m → p + suc n ≤ r + m
    later p q r n m a b = omega arith

    next : (past : List Event) → IsScript past → (has_more settings past ≡ false) ⊎ (potential settings past k + k ≤ potential settings (events_until lines now) now + now)
        → (has_more settings (Ask k ∷ past) ≡ false) ⊎ (potential settings (Ask k ∷ past) (suc k) + suc k ≤ potential settings (events_until lines now) now + now)
    next past script (inl none) = inl (still past none)
      where
        still : (past : List Event) → has_more settings past ≡ false → has_more settings (Ask k ∷ past) ≡ false
        still past none =
            let same = idle settings past k (no_more settings past k none) in
            ap (λ (w : List ℕ). has_text w || has_text_in settings.generations (sents (sent_by settings (Ask k ∷ past)))) same.waits
            ∙ (ap (λ (es : List Turned). has_text (waits_for settings past) || has_text_in settings.generations (sents es)) same.sent ∙ none)
    next past script (inr some) = elim (ask_falls settings past k c (waits_utf8 (stream_of settings) settings.interval past script)) [
      | inl none ↦ inl none
      | inr falls ↦ inr (later (potential settings (Ask k ∷ past) (suc k)) (potential settings past k) (potential settings (events_until lines now) now) k now falls some)
    ]

recent : (settings : SenderSettings) (past : List Event) (now : ℕ) (es : List Turned) → sent_by settings past ≡ es → ((e : Turned) → In e es → (e.sent.media ≤ e.at) × (e.at ≤ now)) → remaining settings.interval es now ≤ settings.interval
recent settings past now [] q h = omega arith
recent settings past now (e ∷ es) q h = let a = h e (inl refl) in omega (arith, a.1)

-- by then nothing is left
pub ends_by : (settings : SenderSettings) (lines : List ScriptLine) (now n : ℕ) → AreSettings settings → IsScript (events_until lines now) → All (λ l. l.at ≤ now) lines
    → length (waits_for settings (events_until lines now)) ≤ MOST_WAITING_OCTETS → now + 65540000 ≤ n → n < 2 ^ 31 → has_more settings (events_through lines n) ≡ false
ends_by settings lines now n c s a room late top =
    subst (λ (past : List Event). has_more settings past ≡ false) (before_suc lines n) (elim (left_at settings lines now (suc n) c s a (omega arith) (omega arith)) [
      | inl none ↦ none
      | inr p ↦ (
          let past = events_until lines now in
          let pace = paced (stream_of settings) settings.interval past c.generations (let l = c.least in omega arith) s in
          let asked = asked_until lines now in
          let rest = recent settings past now (sent_by settings past) refl (λ e i. let r = pace.early e i in (r.0, omega (arith, r.1))) in
          absurd (too_long (potential settings (events_before lines (suc n)) (suc n)) (potential settings past now) (length (waits_for settings past)) (rank settings.generations (sents (sent_by settings past))) (remaining settings.interval (sent_by settings past) now) settings.interval n now refl (let few = rank_le settings.generations (sents (sent_by settings past)) in let most = c.generations in omega (arith, few, most)) rest c.most room late p))
    ])
  where
    too_long : (p q w r m i n now : ℕ) → q ≡ 1000 * (4 * w + r) + m → r ≤ 3 → m ≤ i → i ≤ 1000 → w ≤ MOST_WAITING_OCTETS → now + 65540000 ≤ n → p + suc n ≤ q + now → ⊥
    too_long p q w r m i n now e a b d f g l = omega arith
