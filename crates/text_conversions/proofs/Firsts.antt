-- The first end of a script.
use Rattle.std.proofs.Common.{◌≡◌, ℕ, zero, suc, ◌+◌, ◌<◌, ◌≤◌, ◌^◌, Bool, true, false, cond, inl, inr, Option, Some, None, List, [], ◌∷◌, ◌++◌, append_assoc, length, length-append, refl, ap, subst, sym, ◌∙◌, arith, append-nil as nil}
use Rattle.std.specs.Prelude.{◌&&◌, not, nat_lt, nat_le, All}
use Rattle.std.specs.List.{list_all}
use Rattle.std.proofs.lemmas.Bool.{cases_lt, not-true as negated, and_parts as both}
use Rattle.std.proofs.lemmas.Bool.Decides.{nat_tests}
use Rattle.std.proofs.lemmas.List.Elements.{All-nil, All-cons, All-head, All-tail, All-push, All-weaker}
use Rattle.file_spec.specs.Script.{ScriptLine}
use Rattle.stream_spec.proofs.Typing.{waits_more}
use Rattle.command_spec.specs.Scripts as scripts
use Rattle.command_spec.specs.Scripts.{InOrder, AreLines, events_until, events_through, or_later, first_from}
use Rattle.packetizer.specs.declared.senders.SenderSettings.{SenderSettings}
use Rattle.packetizer.specs.SenderSettings.{AreSettings, stream_of}
use Rattle.packetizer.specs.SenderStanding.{waits_for, has_more}
use Rattle.text_conversions.specs.Scripts.{sending_of, IsEnd, full_below, full_line, first_end, recording, recording_sent}
use Rattle.text_conversions.proofs.Events.{none_before, until_one}
use Rattle.text_conversions.proofs.Typed.{script_through}
use Rattle.text_conversions.proofs.Ending.{ends_by}
use Rattle.text_conversions.proofs.SendLines.{ends_agree}
use Rattle.file_spec.specs.declared.limits.TheConstants.{LAST_MOMENT}
use Rattle.stream_spec.specs.declared.limits.TheConstants.{MOST_WAITING_OCTETS}

-- ---- an end, as a test
typed_test : (lines : List ScriptLine) (t : ℕ) → All (λ l. l.at ≤ t) lines → list_all (λ l. nat_le l.at t) lines ≡ true
typed_test [] t a = refl
typed_test (l ∷ more) t a =
    let this : nat_le l.at t ≡ true = (let h = All-head (λ l. l.at ≤ t) l more a in grind (arith, nat_tests)) in
    ap (λ b. b && list_all (λ l. nat_le l.at t) more) this ∙ typed_test more t (All-tail (λ l. l.at ≤ t) l more a)

from_test : (lines : List ScriptLine) (t : ℕ) → list_all (λ l. nat_le l.at t) lines ≡ true → All (λ l. l.at ≤ t) lines
from_test [] t e = All-nil (λ (l : ScriptLine). l.at ≤ t)
from_test (l ∷ more) t e =
    let p = both (nat_le l.at t) (list_all (λ l. nat_le l.at t) more) e in
    let this : l.at ≤ t = (let h = p.0 in grind (arith, nat_tests)) in
    All-cons (λ l. l.at ≤ t) l more this (from_test more t p.1)

end_test : (settings : SenderSettings) (lines : List ScriptLine) (t : ℕ) → IsEnd settings lines t → scripts.is_end (sending_of settings) lines t ≡ true
end_test settings lines t e = ap (λ b. b && not (has_more settings (events_through lines t))) (typed_test lines t e.all_typed) ∙ ap not e.all_sent

from_end_test : (settings : SenderSettings) (lines : List ScriptLine) (t : ℕ) → scripts.is_end (sending_of settings) lines t ≡ true → IsEnd settings lines t
from_end_test settings lines t e =
    let p = both (list_all (λ l. nat_le l.at t) lines) (not (has_more settings (events_through lines t))) e in
    record { all_typed = from_test lines t p.0; all_sent = negated (has_more settings (events_through lines t)) p.1 }

-- ---- the first that passes
first_found : (p : ℕ → Bool) (n t u : ℕ) → t ≤ u → u < t + n → p u ≡ true → (p (first_from p n t) ≡ true) × (first_from p n t ≤ u)
unfolding first_from
first_found p zero t u l m e = absurd (omega arith)
first_found p (suc n) t u l m e = go (p t) refl (λ q. first_found p n (suc t) u (later q) (omega arith) e)
  where
    at_once : p t ≡ false → t ≡ u → ⊥
    at_once q same = let h : p t ≡ true = ap p same ∙ e in cc (q, h)

    later : p t ≡ false → suc t ≤ u
    later q = elim (cases_lt t u) [ inl lt ↦ omega arith | inr ge ↦ absurd (at_once q (omega arith)) ]

    go : (b : Bool) → p t ≡ b → (p t ≡ false → (p (first_from p n (suc t)) ≡ true) × (first_from p n (suc t) ≤ u))
        → (p (or_later b t (λ v. first_from p n (suc t))) ≡ true) × (or_later b t (λ v. first_from p n (suc t)) ≤ u)
    go true q rest = (q, l)
    go false q rest = rest q

pub is_first : (settings : SenderSettings) (lines : List ScriptLine) (t : ℕ) → t < 2 ^ 31 → IsEnd settings lines t → IsEnd settings lines (first_end settings lines) × (first_end settings lines ≤ t)
unfolding scripts.first_end
is_first settings lines t top e =
    let f = first_found (scripts.is_end (sending_of settings) lines) (2 ^ 31) 0 t (omega arith) (omega arith) (end_test settings lines t e) in
    (from_end_test settings lines (first_end settings lines) f.0, f.1)

-- ---- there is one
not_full : (b : Bool) (line : ℕ) (more : Option ℕ) → cond b (Some line) more ≡ None → (b ≡ false) × (more ≡ None)
not_full true line more e = cc e
not_full false line more e = (refl, e)

-- the last line's moment, and that what waits then has room
record Fits (settings : SenderSettings) (lines : List ScriptLine) : Type 0 where
  last : ℕ
  early : last ≤ LAST_MOMENT
  typed : All (λ l. l.at ≤ last) lines
  room : length (waits_for settings (events_until lines last)) ≤ MOST_WAITING_OCTETS

fits_on : (settings : SenderSettings) (above below : List ScriptLine) (now : ℕ) → All (λ l. l.at ≤ now) above → All (λ l. now ≤ l.at) below → InOrder below → All (λ l. l.at ≤ LAST_MOMENT) below
    → now ≤ LAST_MOMENT → length (waits_for settings (events_until above now)) ≤ MOST_WAITING_OCTETS → full_below settings above below ≡ None → Fits settings (above ++ below)
fits_on settings above [] now a later order early soon room full =
    subst (Fits settings) (sym (nil above)) (let here : Fits settings above = record { last = now; early = soon; typed = a; room = room } in here)
fits_on settings above (x ∷ more) now a later order early soon room full =
    let n = not_full (nat_lt MOST_WAITING_OCTETS (length (waits_for settings (events_until above x.at)) + length x.text)) x.line (full_below settings (above ++ x ∷ []) more) full in
    let fits : length (waits_for settings (events_until above x.at)) + length x.text ≤ MOST_WAITING_OCTETS = (let h = n.0 in grind (arith, nat_tests)) in
    let after = All-head (λ l. now ≤ l.at) x more later in
    let typed = All-push (λ l. l.at ≤ x.at) above x (All-weaker (λ l. l.at ≤ now) (λ l. l.at ≤ x.at) (λ y h. omega arith) above a) (omega arith) in
    let waits = ap (λ past. waits_for settings past) (until_one above x x.at refl) ∙ waits_more (stream_of settings) settings.interval (events_until above x.at) x.text in
    let many = ap (λ (w : List ℕ). length w) waits in
    let roomy : length (waits_for settings (events_until (above ++ x ∷ []) x.at)) ≤ MOST_WAITING_OCTETS = omega (arith, fits, many, length-append (waits_for settings (events_until above x.at)) x.text) in
    subst (Fits settings) (append_assoc above (x ∷ []) more)
    (fits_on settings (above ++ x ∷ []) more x.at typed order.0 order.1 (All-tail (λ l. l.at ≤ LAST_MOMENT) x more early) (All-head (λ l. l.at ≤ LAST_MOMENT) x more early) roomy n.1)

fits_all : (settings : SenderSettings) (lines : List ScriptLine) → AreLines lines → full_line settings lines ≡ None → Fits settings lines
fits_all settings lines a full =
    let none : length (waits_for settings (events_until [] 0)) ≤ MOST_WAITING_OCTETS = subst (λ past. length (waits_for settings past) ≤ MOST_WAITING_OCTETS) (sym (none_before [])) (omega arith) in
    fits_on settings [] lines 0 (All-nil (λ (l : ScriptLine). l.at ≤ 0)) (All-weaker (λ l. l.at ≤ LAST_MOMENT) (λ l. 0 ≤ l.at) (λ l h. omega arith) lines a.early) a.ordered a.early (omega arith) none full

some_end : (settings : SenderSettings) (lines : List ScriptLine) → AreSettings settings → AreLines lines → full_line settings lines ≡ None → IsEnd settings lines 79999999
some_end settings lines k a full =
    let f = fits_all settings lines a full in
    let script = script_through lines f.last a (let h = f.early in omega arith) in
    record {
      all_typed = All-weaker (λ l. l.at ≤ f.last) (λ l. l.at ≤ 79999999) (λ l h. omega (arith, f.early)) lines f.typed;
      all_sent = ends_by settings lines f.last 79999999 k script.2 f.typed f.room (omega (arith, f.early)) (omega arith);
    }

-- a script whose lines are accepted, and of which none is full, has a first end
pub scripts_end : (settings : SenderSettings) (lines : List ScriptLine) → AreSettings settings → AreLines lines → full_line settings lines ≡ None → IsEnd settings lines (first_end settings lines)
scripts_end settings lines k a full = (is_first settings lines 79999999 (omega arith) (some_end settings lines k a full)).0

pub ends_early : (settings : SenderSettings) (lines : List ScriptLine) → AreSettings settings → AreLines lines → full_line settings lines ≡ None → first_end settings lines < 80000000
ends_early settings lines k a full = (let h = (is_first settings lines 79999999 (omega arith) (some_end settings lines k a full)).1 in omega arith)

-- the recording up to any end is that up to the first one
pub at_end : (settings : SenderSettings) (lines : List ScriptLine) (t : ℕ) → t < 2 ^ 31 → IsEnd settings lines t → recording_sent settings lines t ≡ recording settings lines
at_end settings lines t top e = ends_agree settings lines t (first_end settings lines) e (is_first settings lines t top e).0
