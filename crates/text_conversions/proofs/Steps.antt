-- The steps of a recorder.
use Rattle.std.proofs.Common.{◌≡◌, ℕ, suc, ◌+◌, ◌<◌, ◌≤◌, ◌^◌, true, false, inl, inr, None, Some, Result, Ok, Err, List, [], ◌∷◌, ◌++◌, length, length-append, refl, ap, subst, sym, ◌∙◌, rules, arith}
use Rattle.std.specs.Prelude.{All, IsOk, OnOk, min, ◌↔◌, is_err}
use Rattle.std.proofs.lemmas.Bool.{cases_lt}
use Rattle.std.proofs.lemmas.List.Elements.{All-push, All-weaker}
use Rattle.wire_spec.specs.Dump.{dump_opening}
use Rattle.file_spec.specs.Script.{ScriptLine}
use Rattle.stream_spec.specs.Typed.{Text, due_at}
use Rattle.stream_spec.proofs.Typing.{waits_more}
use Rattle.packetizer.specs.declared.senders.SenderSettings.{SenderSettings}
use Rattle.packetizer.specs.SenderSettings.{AreSettings, stream_of}
use Rattle.packetizer.specs.SenderStates.{State}
use Rattle.packetizer.specs.SenderStanding.{SenderStandsFor, waits_for, next_due_of}
use Rattle.command_spec.specs.Scripts.{events_before, events_until, events_through}
use Rattle.text_conversions.specs.Insides.{Records}
use Rattle.text_conversions.proofs.Events.{none_before, until_one, until_later, script_on}
use Rattle.text_conversions.proofs.Asking.{idle_on, before_next, no_next, next_later, records_also}
use Rattle.stream_spec.specs.declared.limits.TheConstants.{MOST_WAITING_OCTETS}

pub on_ok_with : {T E P Q : Type 0} (r : Result T E) → (IsOk r → P → Q) → OnOk r P → OnOk r Q
on_ok_with (Ok x) f p = f (search rules) p
on_ok_with (Err e) f p = p

pub at_start : (settings : SenderSettings) (s : State) (octets : List ℕ) → AreSettings settings → SenderStandsFor settings s [] → octets ≡ dump_opening → Records settings s octets (events_until [] 0)
at_start settings s octets k r e = subst (Records settings s octets) (sym (none_before [])) (let start : Records settings s octets [] = record { settings_is = k; sender = r; recorded = e ∙ opened; room = omega arith } in start)
  where
    nil : (xs : List ℕ) → xs ≡ xs ++ []
    nil [] = refl
    nil (x ∷ xs) = ap (λ ys. x ∷ ys) (nil xs)

    opened : dump_opening ≡ dump_opening ++ []
    opened = nil dump_opening

pub typed_line : (settings : SenderSettings) (s new : State) (octets : List ℕ) (lines : List ScriptLine) (line : ScriptLine) (now : ℕ) → Records settings s octets (events_until lines now)
    → SenderStandsFor settings new (Text line.text ∷ events_until lines now) → now ≡ line.at → length (waits_for settings (events_until lines now)) + length line.text ≤ MOST_WAITING_OCTETS
    → Records settings new octets (events_until (lines ++ line ∷ []) now)
typed_line settings s new octets lines line now r stands e fits =
    subst (Records settings new octets) (sym (until_one lines line now e)) (let after : Records settings new octets (Text line.text ∷ events_until lines now) = record {
      settings_is = r.settings_is;
      sender = stands;
      recorded = r.recorded;
      room = let n = ap (λ (w : List ℕ). length w) (waits_more (stream_of settings) settings.interval (events_until lines now) line.text) in omega (arith, fits, length-append (waits_for settings (events_until lines now)) line.text);
    } in after)

-- what was quiet from the last ask on
skipped : (settings : SenderSettings) (s : State) (octets : List ℕ) (lines : List ScriptLine) (last k : ℕ) → Records settings s octets (events_through lines last) → All (λ l. l.at ≤ last) lines
    → last < k → k ≤ 2 ^ 31 → ((t : ℕ) → last < t → t < k → due_at (stream_of settings) settings.interval (events_through lines last) t ≡ false) → Records settings s octets (events_until lines k)
skipped settings s octets lines last k r a l top quiet =
    subst (Records settings s octets) (sym (until_later lines last k a l))
    (records_also settings s octets (events_before lines k) (events_through lines last) r (script_on lines last k a l top r.sender.script.2) (idle_on settings lines last k a l quiet))

pub skip_some : (settings : SenderSettings) (s : State) (octets : List ℕ) (lines : List ScriptLine) (last at m : ℕ) → Records settings s octets (events_through lines last) → All (λ l. l.at ≤ last) lines
    → suc last ≤ at → at < 2 ^ 31 → Some m ≡ next_due_of settings (events_through lines last) → Records settings s octets (events_until lines (min m at)) × (suc last ≤ min m at)
skip_some settings s octets lines last at m r a l top e =
    let later = next_later settings (events_until lines last) last m (let h = r.settings_is.least in omega arith) e in
    (skipped settings s octets lines last (min m at) r a (omega arith) (omega arith) (λ t lo hi. before_next settings (events_through lines last) m t e (omega arith)), omega arith)

pub skip_none : (settings : SenderSettings) (s : State) (octets : List ℕ) (lines : List ScriptLine) (last at : ℕ) → Records settings s octets (events_through lines last) → All (λ l. l.at ≤ last) lines
    → suc last ≤ at → at < 2 ^ 31 → None ≡ next_due_of settings (events_through lines last) → Records settings s octets (events_until lines at)
skip_none settings s octets lines last at r a l top e = skipped settings s octets lines last at r a (omega arith) (omega arith) (λ t lo hi. no_next settings (events_until lines last) last t e)

pub typed_later : (lines : List ScriptLine) (m n : ℕ) → All (λ l. l.at ≤ m) lines → m ≤ n → All (λ l. l.at ≤ n) lines
typed_later lines m n a l = All-weaker (λ l. l.at ≤ m) (λ l. l.at ≤ n) (λ x h. omega arith) lines a

pub typed_one_more : (lines : List ScriptLine) (line : ScriptLine) (now : ℕ) → All (λ l. l.at ≤ now) lines → now ≡ line.at → All (λ l. l.at ≤ now) (lines ++ line ∷ [])
typed_one_more lines line now a e = All-push (λ l. l.at ≤ now) lines line a (omega arith)

-- ---- what an answer says
not_ok : {T E : Type 0} (r : Result T E) → is_err r ≡ true → IsOk r → ⊥
not_ok (Ok x) e i = cc e
not_ok (Err x) e i = search (rules, i)

pub err_over : {T E : Type 0} (r : Result T E) (n : ℕ) → is_err r ≡ true → (IsOk r ↔ (n ≤ MOST_WAITING_OCTETS)) → MOST_WAITING_OCTETS < n
err_over r n e i = elim (cases_lt MOST_WAITING_OCTETS n) [ inl lt ↦ lt | inr ge ↦ absurd (not_ok r e (i.1 ge)) ]

pub ok_fits : {T E : Type 0} (r : Result T E) (n : ℕ) → is_err r ≡ false → (IsOk r ↔ (n ≤ MOST_WAITING_OCTETS)) → n ≤ MOST_WAITING_OCTETS
ok_fits (Ok x) n e i = i.0 (search rules)
ok_fits (Err x) n e i = cc e

pub from_ok : {T E P : Type 0} (r : Result T E) → is_err r ≡ false → OnOk r P → P
from_ok (Ok x) e p = p
from_ok (Err x) e p = cc e
