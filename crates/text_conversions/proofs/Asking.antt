-- What an ask changes.
use Rattle.std.proofs.Common.{◌≡◌, ℕ, zero, suc, ◌+◌, ◌<◌, ◌≤◌, Bool, true, false, cond, inl, inr, Option, None, Some, List, [], ◌∷◌, ◌++◌, append_assoc, length, length-drop, refl, ap, subst, sym, ◌∙◌, arith, append-nil as nil}
use Rattle.std.specs.Prelude.{◌&&◌, nat_le, All}
use Rattle.std.specs.List.{flat_map}
use Rattle.std.specs.Option.{option_map}
use Rattle.std.proofs.lemmas.Bool.{cases_lt, lt-leb as too_early}
use Rattle.std.proofs.lemmas.Bool.Decides.{nat_tests}
use Rattle.std.proofs.lemmas.Grind.{flat_map-append}
use Rattle.wire_spec.specs.Dump.{dump_opening, dump_written, record_written}
use Rattle.file_spec.specs.Script.{ScriptLine}
use Rattle.stream_spec.specs.Own.{packet_after}
use Rattle.stream_spec.specs.Typed.{Event, Ask, Turned, sents, whole_front, is_due, due_at, packet_at, entry_at, IsScript, has_passed, next_at}
use Rattle.stream_spec.proofs.Typing.{entries_more, entries_same, waits_same, waits_less}
use Rattle.packetizer.specs.declared.senders.SenderSettings.{SenderSettings}
use Rattle.packetizer.specs.SenderSettings.{stream_of}
use Rattle.packetizer.specs.SenderStates.{State}
use Rattle.packetizer.specs.SenderStanding.{SenderStandsFor, sent_by, waits_for, has_more, next_due_of, last_of}
use Rattle.wire_spec.specs.SentPackets.{packet_written}
use Rattle.packetizer.proofs.Scripts.{due_from, none_due}
use Rattle.command_spec.specs.Scripts.{events_before, events_until, events_through}
use Rattle.text_conversions.specs.Scripts.{records_of}
use Rattle.text_conversions.specs.Insides.{Records}
use Rattle.text_conversions.proofs.Events.{before_suc, until_later}
use Rattle.rtt_base.specs.declared.limits.TheConstants.{MOST_TEXT_OCTETS}

-- the same was sent, and the same waits
pub record Same (settings : SenderSettings) (new old : List Event) : Type 0 where
  pub sent : sent_by settings new ≡ sent_by settings old
  pub waits : waits_for settings new ≡ waits_for settings old

same_due : (settings : SenderSettings) (new old : List Event) (t : ℕ) → Same settings new old → due_at (stream_of settings) settings.interval new t ≡ due_at (stream_of settings) settings.interval old t
same_due settings new old t s =
    ap (λ (es : List Turned). is_due (stream_of settings) settings.interval es (waits_for settings new) t) s.sent
    ∙ ap (λ (w : List ℕ). is_due (stream_of settings) settings.interval (sent_by settings old) w t) s.waits

-- an ask at which nothing is due changes nothing
pub idle : (settings : SenderSettings) (past : List Event) (t : ℕ) → due_at (stream_of settings) settings.interval past t ≡ false → Same settings (Ask t ∷ past) past
idle settings past t d = record { sent = entries_same (stream_of settings) settings.interval past t d; waits = waits_same (stream_of settings) settings.interval past t d }

pub same_on : (settings : SenderSettings) (a b c : List Event) → Same settings a b → Same settings b c → Same settings a c
same_on settings a b c p q = record { sent = p.sent ∙ q.sent; waits = p.waits ∙ q.waits }

pub same_refl : (settings : SenderSettings) (a b : List Event) → a ≡ b → Same settings a b
same_refl settings a b e = record { sent = ap (sent_by settings) e; waits = ap (waits_for settings) e }

-- asks at which nothing is due change nothing
pub idle_on : (settings : SenderSettings) (lines : List ScriptLine) (last k : ℕ) → All (λ l. l.at ≤ last) lines → last < k
    → ((t : ℕ) → last < t → t < k → due_at (stream_of settings) settings.interval (events_through lines last) t ≡ false) → Same settings (events_before lines k) (events_through lines last)
idle_on settings lines last zero a l quiet = absurd (omega arith)
idle_on settings lines last (suc k) a l quiet = same_on settings (events_before lines (suc k)) (events_through lines k) (events_through lines last) (same_refl settings (events_before lines (suc k)) (events_through lines k) (before_suc lines k)) (elim (cases_lt last k) [
  | inl lt ↦ (
      let r = idle_on settings lines last k a lt (λ t lo hi. quiet t lo (omega arith)) in
      let same : Same settings (events_until lines k) (events_through lines last) = same_on settings (events_until lines k) (events_before lines k) (events_through lines last) (same_refl settings (events_until lines k) (events_before lines k) (until_later lines last k a lt)) r in
      let d = same_due settings (events_until lines k) (events_through lines last) k same ∙ quiet k lt (omega arith) in
      same_on settings (events_through lines k) (events_until lines k) (events_through lines last) (idle settings (events_until lines k) k d) same
      )
  | inr ge ↦ (let q : k ≡ last = omega arith in same_refl settings (events_through lines k) (events_through lines last) (ap (events_through lines) q))
])

-- ---- when nothing is due
pub no_more : (settings : SenderSettings) (past : List Event) (t : ℕ) → has_more settings past ≡ false → due_at (stream_of settings) settings.interval past t ≡ false
no_more settings past t h = ap (λ b. b && has_passed settings.interval (sent_by settings past) t) h

pub before_next : (settings : SenderSettings) (past : List Event) (m t : ℕ) → Some m ≡ next_due_of settings past → t < m → due_at (stream_of settings) settings.interval past t ≡ false
before_next settings past m t e l = due_from settings past m t (sym e) ∙ too_early m t l

pub no_next : (settings : SenderSettings) (past : List Event) (last t : ℕ) → None ≡ next_due_of settings (Ask last ∷ past) → due_at (stream_of settings) settings.interval (Ask last ∷ past) t ≡ false
no_next settings past last t e = no_more settings (Ask last ∷ past) t (none_due settings past last (sym e))

-- the next moment is later than the last ask
pub next_later : (settings : SenderSettings) (past : List Event) (last m : ℕ) → 1 ≤ settings.interval → Some m ≡ next_due_of settings (Ask last ∷ past) → last < m
next_later settings past last m o e = go (due_at (stream_of settings) settings.interval past last) refl
  where
    from_entry : (b : Bool) (at : ℕ) → Some m ≡ cond b (Some (at + settings.interval)) None → at + settings.interval ≡ m
    from_entry true at q = cc q
    from_entry false at q = cc q

    le_false : (a b : ℕ) → nat_le a b ≡ false → b < a
    le_false a b q = grind (arith, nat_tests)

    go : (b : Bool) → due_at (stream_of settings) settings.interval past last ≡ b → last < m
    go true d =
        let more = entries_more (stream_of settings) settings.interval past last d in
        let q = from_entry (has_more settings (Ask last ∷ past)) last (e ∙ ap (λ (es : List Turned). cond (has_more settings (Ask last ∷ past)) (next_at settings.interval es) None) more) in
        omega arith
    go false d =
        let s = idle settings past last d in
        let f = due_from settings (Ask last ∷ past) m last (sym e) in
        le_false m last (sym f ∙ (same_due settings (Ask last ∷ past) past last s ∙ d))

-- ---- what a sender stands for
pub also_for : (settings : SenderSettings) (s : State) (new old : List Event) → SenderStandsFor settings s old → IsScript new → Same settings new old → SenderStandsFor settings s new
also_for settings s new old r i same = record {
  script = i;
  settings_is = r.settings_is;
  waits = r.waits ∙ sym same.waits;
  output = rw same.sent r.output;
  last = r.last ∙ ap (λ (es : List Turned). last_of es) (sym same.sent);
}

pub records_also : (settings : SenderSettings) (s : State) (octets : List ℕ) (new old : List Event) → Records settings s octets old → IsScript new → Same settings new old → Records settings s octets new
records_also settings s octets new old r i same = record {
  settings_is = r.settings_is;
  sender = also_for settings s new old r.sender i same;
  recorded = r.recorded ∙ ap (λ (es : List Turned). dump_written (records_of settings es)) (sym same.sent);
  room = let n = ap (λ (w : List ℕ). length w) same.waits in omega (arith, r.room);
}

-- ---- an ask, recorded
none_sent : (settings : SenderSettings) (past : List Event) (t : ℕ) → let none : Option (List ℕ) = None in none ≡ option_map (packet_written settings.payload_types) (packet_at (stream_of settings) settings.interval past t)
    → due_at (stream_of settings) settings.interval past t ≡ false
none_sent settings past t e = go (due_at (stream_of settings) settings.interval past t) e
  where
    go : (b : Bool) → let none : Option (List ℕ) = None in none ≡ option_map (packet_written settings.payload_types) (cond b (Some (packet_after (stream_of settings) (sents (sent_by settings past)) (entry_at (stream_of settings) (sent_by settings past) (waits_for settings past) t).sent)) None) → b ≡ false
    go true q = cc q
    go false q = refl

-- the packet of an ask
abbrev pub packet_of : SenderSettings → List Event → ℕ → List ℕ
packet_of settings past t = packet_written settings.payload_types (packet_after (stream_of settings) (sents (sent_by settings past)) (entry_at (stream_of settings) (sent_by settings past) (waits_for settings past) t).sent)

some_sent : (settings : SenderSettings) (past : List Event) (t : ℕ) (packet : List ℕ) → Some packet ≡ option_map (packet_written settings.payload_types) (packet_at (stream_of settings) settings.interval past t)
    → (due_at (stream_of settings) settings.interval past t ≡ true) × (packet ≡ packet_of settings past t)
some_sent settings past t packet e = go (due_at (stream_of settings) settings.interval past t) e
  where
    go : (b : Bool) → Some packet ≡ option_map (packet_written settings.payload_types) (cond b (Some (packet_after (stream_of settings) (sents (sent_by settings past)) (entry_at (stream_of settings) (sent_by settings past) (waits_for settings past) t).sent)) None) → (b ≡ true) × (packet ≡ packet_of settings past t)
    go true q = (refl, cc q)
    go false q = cc q

one_more : (rs : List (ℕ × List ℕ)) (r : ℕ × List ℕ) → dump_written rs ++ record_written r ≡ dump_written (rs ++ r ∷ [])
one_more rs r =
    append_assoc dump_opening (flat_map record_written rs) (record_written r)
    ∙ ap (λ (xs : List ℕ). dump_opening ++ xs) (sym (flat_map-append record_written rs (r ∷ []) ∙ ap (λ (xs : List ℕ). flat_map record_written rs ++ xs) (nil (record_written r))))

pub asked_idle : (settings : SenderSettings) (s new : State) (octets : List ℕ) (past : List Event) (t : ℕ) → Records settings s octets past
    → (let none : Option (List ℕ) = None in none ≡ option_map (packet_written settings.payload_types) (packet_at (stream_of settings) settings.interval past t)) → SenderStandsFor settings new (Ask t ∷ past) → Records settings new octets (Ask t ∷ past)
asked_idle settings s new octets past t r e stands =
    let same = idle settings past t (none_sent settings past t e) in
    record {
      settings_is = r.settings_is;
      sender = stands;
      recorded = r.recorded ∙ ap (λ (es : List Turned). dump_written (records_of settings es)) (sym same.sent);
      room = let n = ap (λ (w : List ℕ). length w) same.waits in omega (arith, r.room);
    }

pub asked_more : (settings : SenderSettings) (s new : State) (octets written packet : List ℕ) (past : List Event) (t : ℕ) → Records settings s octets past
    → Some packet ≡ option_map (packet_written settings.payload_types) (packet_at (stream_of settings) settings.interval past t) → SenderStandsFor settings new (Ask t ∷ past)
    → written ≡ octets ++ record_written (t, packet) → Records settings new written (Ask t ∷ past)
asked_more settings s new octets written packet past t r e stands w =
    let d = some_sent settings past t packet e in
    let more = entries_more (stream_of settings) settings.interval past t d.0 in
    record {
      settings_is = r.settings_is;
      sender = stands;
      recorded =
          w
          ∙ (ap (λ (xs : List ℕ). xs ++ record_written (t, packet)) r.recorded
          ∙ (ap (λ (p : List ℕ). dump_written (records_of settings (sent_by settings past)) ++ record_written (t, p)) d.1
          ∙ (one_more (records_of settings (sent_by settings past)) (t, packet_of settings past t)
          ∙ ap (λ (es : List Turned). dump_written (records_of settings es)) (sym more))));
      room = let n = ap (λ (w : List ℕ). length w) (waits_less (stream_of settings) settings.interval past t d.0) in omega (arith, r.room, length-drop (length (whole_front MOST_TEXT_OCTETS (waits_for settings past))) (waits_for settings past));
    }

-- a packet is not empty
pub some_octets : (settings : SenderSettings) (past : List Event) (t : ℕ) (packet : List ℕ) → Some packet ≡ option_map (packet_written settings.payload_types) (packet_at (stream_of settings) settings.interval past t) → 0 < length packet
some_octets settings past t packet e = let s = some_sent settings past t packet e in subst (λ (xs : List ℕ). 0 < length xs) (sym s.1) (omega arith)
