-- What was typed of a script, and that it is a script of a sender.
use Rattle.std.proofs.Common.{◌≡◌, ℕ, zero, suc, ◌<◌, ◌≤◌, ◌^◌, Bool, true, false, cond, inl, inr, List, [], ◌∷◌, ◌++◌, append_assoc, refl, ap, subst, sym, ◌∙◌, arith, append-nil as nil}
use Rattle.std.specs.Prelude.{◌==◌, All, IsUtf8}
use Rattle.std.specs.List.{AllByRecursion}
use Rattle.std.proofs.lemmas.Grind.{flat_map-append}
use Rattle.std.proofs.lemmas.List.Elements.{recursion_from_All, All-nil, All-head, All-tail, All-push, All-weaker}
use Rattle.std.proofs.lemmas.Bool.{cases_lt}
use Rattle.file_spec.specs.Script.{ScriptLine}
use Rattle.stream_spec.specs.History.{Lawful}
use Rattle.stream_spec.specs.Own.{Closed}
use Rattle.stream_spec.specs.Typed.{Event, Text, typed, IsScript, primaries}
use Rattle.packetizer.specs.declared.senders.SenderSettings.{SenderSettings}
use Rattle.packetizer.specs.SenderSettings.{AreSettings}
use Rattle.packetizer.specs.SenderStanding.{history_sent}
use Rattle.packetizer.proofs.Scripts.{lawful, end_sent, end_closed}
use Rattle.command_spec.specs.Scripts.{InOrder, AreLines, text_of_lines, typed_at, events_before, events_until, events_through}
use Rattle.text_conversions.specs.Scripts.{IsEnd}
use Rattle.text_conversions.proofs.Events.{before_suc, none_before, until_later, until_one, asked_until}

-- ---- a script of a sender
typed_script : (t : ℕ) (lines : List ScriptLine) (past : List Event) → AllByRecursion (λ l. IsUtf8 l.text) lines → IsScript past → IsScript (typed_at t lines past)
typed_script t [] past a s = s
typed_script t (l ∷ more) past a s = typed_script t more (cond (l.at == t) (Text l.text ∷ past) past) a.1 (go (l.at == t))
  where
    go : (b : Bool) → IsScript (cond b (Text l.text ∷ past) past)
    go true = (a.0, s)
    go false = s

script_before : (lines : List ScriptLine) (t : ℕ) → AllByRecursion (λ l. IsUtf8 l.text) lines → t ≤ 2 ^ 31 → IsScript (events_before lines t)
script_before lines zero a l = subst IsScript (sym (none_before lines)) tt
script_before lines (suc t) a l = subst IsScript (sym (before_suc lines t)) (asked_until lines t, omega arith, typed_script t lines (events_before lines t) a (script_before lines t a (omega arith)))

pub script_through : (lines : List ScriptLine) (t : ℕ) → AreLines lines → t < 2 ^ 31 → IsScript (events_through lines t)
script_through lines t a l = subst IsScript (before_suc lines t) (script_before lines (suc t) (recursion_from_All (λ l. IsUtf8 l.text) lines a.texts) (omega arith))

-- ---- what was typed
-- asks type nothing
typed_on : (lines : List ScriptLine) (t k : ℕ) → All (λ l. l.at ≤ t) lines → t < k → typed (events_before lines k) ≡ typed (events_until lines t)
typed_on lines t zero a l = absurd (omega arith)
typed_on lines t (suc k) a l = ap typed (before_suc lines k) ∙ elim (cases_lt t k) [
  | inl lt ↦ ap typed (until_later lines t k a lt) ∙ typed_on lines t k a lt
  | inr ge ↦ (let q : k ≡ t = omega arith in ap (λ n. typed (events_until lines n)) q)
]

typed_until : (lines : List ScriptLine) (t k : ℕ) → All (λ l. l.at ≤ t) lines → t ≤ k → typed (events_until lines k) ≡ typed (events_until lines t)
typed_until lines t k a l = elim (cases_lt t k) [
  | inl lt ↦ ap typed (until_later lines t k a lt) ∙ typed_on lines t k a lt
  | inr ge ↦ (let q : k ≡ t = omega arith in ap (λ n. typed (events_until lines n)) q)
]

texts_more : (above : List ScriptLine) (l : ScriptLine) → text_of_lines (above ++ l ∷ []) ≡ text_of_lines above ++ l.text
texts_more above l = flat_map-append (λ (x : ScriptLine). x.text) above (l ∷ []) ∙ ap (λ xs. text_of_lines above ++ xs) (nil l.text)

typed_lines : (above below : List ScriptLine) (m t : ℕ) → All (λ l. l.at ≤ m) above → All (λ l. m ≤ l.at) below → InOrder below → All (λ l. l.at ≤ t) below → m ≤ t
    → typed (events_until above m) ≡ text_of_lines above → typed (events_until (above ++ below) t) ≡ text_of_lines (above ++ below)
typed_lines above [] m t a b o e l p = subst (λ xs. typed (events_until xs t) ≡ text_of_lines xs) (sym (nil above)) (typed_until above m t a l ∙ p)
typed_lines above (x ∷ more) m t a b o e l p =
    let later = All-head (λ l. m ≤ l.at) x more b in
    let typed_then : typed (events_until (above ++ x ∷ []) x.at) ≡ text_of_lines (above ++ x ∷ []) =
    ap typed (until_one above x x.at refl) ∙ (ap (λ xs. xs ++ x.text) (typed_until above m x.at a later ∙ p) ∙ sym (texts_more above x)) in
    let up = All-push (λ l. l.at ≤ x.at) above x (All-weaker (λ l. l.at ≤ m) (λ l. l.at ≤ x.at) (λ y h. omega arith) above a) (omega arith) in
    subst (λ xs. typed (events_until xs t) ≡ text_of_lines xs) (append_assoc above (x ∷ []) more)
    (typed_lines (above ++ x ∷ []) more x.at t up o.0 o.1 (All-tail (λ l. l.at ≤ t) x more e) (All-head (λ l. l.at ≤ t) x more e) typed_then)

all_typed : (lines : List ScriptLine) (t : ℕ) → InOrder lines → All (λ l. l.at ≤ t) lines → typed (events_through lines t) ≡ text_of_lines lines
all_typed lines t o e =
    typed_lines [] lines 0 t (All-nil (λ (l : ScriptLine). l.at ≤ 0)) (All-weaker (λ l. l.at ≤ t) (λ l. 0 ≤ l.at) (λ l h. omega arith) lines e) o e (omega arith)
    (ap typed (none_before []))

-- ---- the history
pub lawful_sent : (settings : SenderSettings) (lines : List ScriptLine) (t : ℕ) → AreSettings settings → AreLines lines → t < 2 ^ 31 → Lawful (history_sent settings (events_through lines t))
lawful_sent settings lines t k a l = lawful settings (events_through lines t) k (script_through lines t a l)

pub closed_sent : (settings : SenderSettings) (lines : List ScriptLine) (t : ℕ) → AreSettings settings → AreLines lines → t < 2 ^ 31 → IsEnd settings lines t → Closed settings.generations (history_sent settings (events_through lines t))
closed_sent settings lines t k a l e = end_closed settings (events_through lines t) k (script_through lines t a l) e.all_sent

pub texts_sent : (settings : SenderSettings) (lines : List ScriptLine) (t : ℕ) → AreLines lines → IsEnd settings lines t → primaries (history_sent settings (events_through lines t)) ≡ text_of_lines lines
texts_sent settings lines t a e = sym (end_sent settings (events_through lines t) e.all_sent) ∙ all_typed lines t a.ordered e.all_typed
