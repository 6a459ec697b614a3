-- A script, line after line, and its ends.
use Rattle.std.proofs.Common.{◌≡◌, ℕ, suc, ◌+◌, ◌<◌, ◌≤◌, ◌^◌, true, false, inl, inr, Some, None, List, [], ◌∷◌, ◌++◌, append_assoc, length, get_or, take, drop, cond, refl, ap, subst, sym, ◌∙◌, arith, append-nil as nil}
use Rattle.std.specs.Prelude.{All, nat_lt, IsUtf8}
use Rattle.std.proofs.lemmas.List.Elements.{All-head, All-tail, All-weaker}
use Rattle.std.proofs.lemmas.List.{at_drop_more, take_more, drop_all}
use Rattle.std.proofs.lemmas.Bool.{cases_lt}
use Rattle.std.proofs.lemmas.Bool.Decides.{nat_tests}
use Rattle.wire_spec.specs.Dump.{dump_written}
use Rattle.file_spec.specs.Script.{ScriptLine}
use Rattle.stream_spec.specs.Typed.{Event, Turned}
use Rattle.packetizer.specs.declared.senders.SenderSettings.{SenderSettings}
use Rattle.packetizer.specs.SenderStanding.{sent_by, waits_for}
use Rattle.command_spec.specs.Scripts.{AreLines, events_until, events_through}
use Rattle.command_spec.specs.Frames.{AreTyped}
use Rattle.text_conversions.specs.Scripts.{IsEnd, full_below, full_line}
use Rattle.text_conversions.specs.Scripts.{records_of, recording_sent}
use Rattle.text_conversions.specs.Insides.{Records, IsAt}
use Rattle.text_conversions.specs.declared.recorders.Recorder.{Recorder}
use Rattle.text_conversions.proofs.Events.{before_suc, until_later}
use Rattle.text_conversions.proofs.Asking.{idle_on, no_more}
use Rattle.text_conversions.proofs.Ending.{ends_by}
use Rattle.file_spec.specs.declared.limits.TheConstants.{LAST_MOMENT}
use Rattle.file_spec.specs.declared.frame_limits.TheConstants.{END_OF_FRAME_MOMENTS}
use Rattle.stream_spec.specs.declared.limits.TheConstants.{MOST_WAITING_OCTETS}

-- ---- two ends
one_end : (settings : SenderSettings) (lines : List ScriptLine) (t k : ℕ) → IsEnd settings lines t → t ≤ k → recording_sent settings lines k ≡ recording_sent settings lines t
one_end settings lines t k e l =
    let same = idle_on settings lines t (suc k) e.all_typed (omega arith) (λ s lo hi. no_more settings (events_through lines t) s e.all_sent) in
    ap (λ (past : List Event). dump_written (records_of settings (sent_by settings past))) (sym (before_suc lines k)) ∙ ap (λ (es : List Turned). dump_written (records_of settings es)) same.sent

pub ends_agree : (settings : SenderSettings) (lines : List ScriptLine) (t k : ℕ) → IsEnd settings lines t → IsEnd settings lines k → recording_sent settings lines t ≡ recording_sent settings lines k
ends_agree settings lines t k e f = elim (cases_lt t k) [
  | inl lt ↦ sym (one_end settings lines t k e (omega arith))
  | inr ge ↦ one_end settings lines k t f ge
]

-- ---- line after line
-- the lines above were typed, and those below are still to be typed
pub record Sends (settings : SenderSettings) (lines above below : List ScriptLine) (r : Recorder) : Type 0 where
  pub whole : lines ≡ above ++ below
  pub is_at : IsAt settings above r
  pub early : r.now < END_OF_FRAME_MOMENTS
  pub later : All (λ l. r.now ≤ l.at) below
  pub lines_below : AreTyped below
  pub full : full_line settings lines ≡ full_below settings above below

pub at_first : (settings : SenderSettings) (lines : List ScriptLine) (r : Recorder) → AreTyped lines → IsAt settings [] r → r.now ≡ 0 → Sends settings lines [] lines r
at_first settings lines r a i z = record {
  whole = refl;
  is_at = i;
  early = omega arith;
  later = All-weaker (λ l. l.at < END_OF_FRAME_MOMENTS) (λ l. r.now ≤ l.at) (λ l h. omega arith) lines a.early;
  lines_below = a;
  full = refl;
}

more_lines : (line : ScriptLine) (more : List ScriptLine) → AreTyped (line ∷ more) → AreTyped more
more_lines line more a = record { ordered = a.ordered.1; early = All-tail (λ l. l.at < END_OF_FRAME_MOMENTS) line more a.early; texts = All-tail (λ l. IsUtf8 l.text) line more a.texts }

-- a line that fits
pub next_line : (settings : SenderSettings) (lines above more : List ScriptLine) (line : ScriptLine) (r passed typed : Recorder) → Sends settings lines above (line ∷ more) r
    → passed.now ≡ line.at → length (waits_for settings (events_until above passed.now)) + length line.text ≤ MOST_WAITING_OCTETS → IsAt settings (above ++ line ∷ []) typed → typed.now ≡ passed.now → Sends settings lines (above ++ line ∷ []) more typed
next_line settings lines above more line r passed typed s p fits i n = record {
  whole = s.whole ∙ sym (append_assoc above (line ∷ []) more);
  is_at = i;
  early = omega (arith, n, p, All-head (λ l. l.at < END_OF_FRAME_MOMENTS) line more s.lines_below.early);
  later = All-weaker (λ l. line.at ≤ l.at) (λ l. typed.now ≤ l.at) (λ l h. omega arith) more s.lines_below.ordered.0;
  lines_below = more_lines line more s.lines_below;
  full = s.full ∙ ap (λ b. cond b (Some line.line) (full_below settings (above ++ line ∷ []) more)) not_full;
}
  where
    test : (a : ℕ) → a ≤ MOST_WAITING_OCTETS → nat_lt MOST_WAITING_OCTETS a ≡ false
    test a l = grind (arith, nat_tests)

    not_full : nat_lt MOST_WAITING_OCTETS (length (waits_for settings (events_until above line.at)) + length line.text) ≡ false
    not_full = test (length (waits_for settings (events_until above line.at)) + length line.text) (subst (λ t. length (waits_for settings (events_until above t)) + length line.text ≤ MOST_WAITING_OCTETS) p fits)

-- a line that is full
pub full_here : (settings : SenderSettings) (lines above more : List ScriptLine) (line : ScriptLine) (r passed : Recorder) → Sends settings lines above (line ∷ more) r
    → passed.now ≡ line.at → MOST_WAITING_OCTETS < length (waits_for settings (events_until above passed.now)) + length line.text → full_line settings lines ≡ Some line.line
full_here settings lines above more line r passed s p over =
    s.full ∙ ap (λ b. cond b (Some line.line) (full_below settings (above ++ line ∷ []) more)) (test (length (waits_for settings (events_until above line.at)) + length line.text) (subst (λ t. MOST_WAITING_OCTETS < length (waits_for settings (events_until above t)) + length line.text) p over))
  where
    test : (a : ℕ) → MOST_WAITING_OCTETS < a → nat_lt MOST_WAITING_OCTETS a ≡ true
    test a l = grind (arith, nat_tests)

-- ---- behind the last line
pub record Sent (settings : SenderSettings) (lines : List ScriptLine) (octets : List ℕ) (n : ℕ) : Type 0 where
  pub is_end : IsEnd settings lines n
  pub recording : octets ≡ recording_sent settings lines n
  pub not_full : full_line settings lines ≡ None

pub at_last : (settings : SenderSettings) (lines above : List ScriptLine) (r last : Recorder) (n : ℕ) → Sends settings lines above [] r → IsAt settings above last → last.now ≡ suc n → 82999999 ≤ n → n < 2 ^ 31
    → Sent settings lines last.octets n
at_last settings lines above r last n s i e late top = subst (λ ls. Sent settings ls last.octets n) (sym (s.whole ∙ nil above)) (let done : Sent settings above last.octets n = record {
  is_end = record {
    all_typed = All-weaker (λ l. l.at ≤ r.now) (λ l. l.at ≤ n) (λ l h. omega (arith, s.early)) above s.is_at.typed;
    all_sent = ends_by settings above r.now n s.is_at.records.settings_is s.is_at.records.sender.script s.is_at.typed s.is_at.records.room (omega (arith, s.early, late)) top;
  };
  recording = (subst (Records settings last.sender last.octets) same i.records).recorded;
  not_full = subst (λ ls. full_line settings ls ≡ None) (s.whole ∙ nil above) s.full;
} in done)
  where
    same : events_until above last.now ≡ events_through above n
    same = ap (λ k. events_until above k) e ∙ (until_later above r.now (suc n) s.is_at.typed (omega (arith, s.early)) ∙ before_suc above n)

-- ---- by the place of a line
pub below_from : (xs : List ScriptLine) (i : ℕ) (line : ScriptLine) → i < length xs → line ≡ get_or xs i line → drop i xs ≡ line ∷ drop (i + 1) xs
below_from xs i line l e = at_drop_more (λ ys. ys) xs i line l ∙ ap (λ x. x ∷ drop (i + 1) xs) (sym e)

pub above_to : (xs : List ScriptLine) (i : ℕ) (line : ScriptLine) → i < length xs → line ≡ get_or xs i line → take (i + 1) xs ≡ take i xs ++ line ∷ []
above_to xs i line l e = take_more xs i line l ∙ ap (λ x. take i xs ++ x ∷ []) (sym e)

pub at_line : (settings : SenderSettings) (xs : List ScriptLine) (i : ℕ) (line : ScriptLine) (r : Recorder) → i < length xs → line ≡ get_or xs i line
    → Sends settings xs (take i xs) (drop i xs) r → Sends settings xs (take i xs) (line ∷ drop (i + 1) xs) r
at_line settings xs i line r l e s = subst (λ below. Sends settings xs (take i xs) below r) (below_from xs i line l e) s

pub all_lines : (settings : SenderSettings) (xs : List ScriptLine) (i : ℕ) (r : Recorder) → length xs ≤ i → Sends settings xs (take i xs) (drop i xs) r → Sends settings xs (take i xs) [] r
all_lines settings xs i r l s = subst (λ below. Sends settings xs (take i xs) below r) (drop_all i xs l) s

-- ---- lines of a script may be typed
pub script_typed : (lines : List ScriptLine) → AreLines lines → AreTyped lines
script_typed lines a = record {
  ordered = a.ordered;
  early = All-weaker (λ l. l.at ≤ LAST_MOMENT) (λ l. l.at < END_OF_FRAME_MOMENTS) (λ l h. omega arith) lines a.early;
  texts = a.texts;
}
