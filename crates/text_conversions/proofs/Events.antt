-- The events of a script, millisecond after millisecond.
use Rattle.std.proofs.Common.{◌≡◌, ℕ, zero, suc, ◌<◌, ◌≤◌, ◌^◌, Bool, true, false, cond, inl, inr, List, [], ◌∷◌, ◌++◌, refl, ap, subst, sym, ◌∙◌, arith}
use Rattle.std.specs.Prelude.{◌==◌, All}
use Rattle.std.specs.List.{AllByRecursion}
use Rattle.std.proofs.lemmas.List.Elements.{recursion_from_All, All-weaker}
use Rattle.std.proofs.lemmas.Bool.{cases_lt}
use Rattle.std.proofs.lemmas.Bool.Decides.{nat_tests}
use Rattle.file_spec.specs.Script.{ScriptLine}
use Rattle.stream_spec.specs.Typed.{Event, Text, Ask, last_ask, IsScript}
use Rattle.command_spec.specs.Scripts.{typed_at, events_before, events_until, events_through}

-- ---- the lines of a millisecond
none_at : (t : ℕ) (lines : List ScriptLine) (past : List Event) → AllByRecursion (λ l. l.at < t) lines → typed_at t lines past ≡ past
none_at t [] past a = refl
none_at t (l ∷ more) past a =
    let other : (l.at == t) ≡ false = (let h = a.0 in grind (arith, nat_tests)) in
    ap (λ b. typed_at t more (cond b (Text l.text ∷ past) past)) other ∙ none_at t more past a.1

typed_one : (t : ℕ) (lines : List ScriptLine) (l : ScriptLine) (past : List Event)
    → typed_at t (lines ++ l ∷ []) past ≡ cond (l.at == t) (Text l.text ∷ typed_at t lines past) (typed_at t lines past)
typed_one t [] l past = refl
typed_one t (m ∷ more) l past = typed_one t more l (cond (m.at == t) (Text m.text ∷ past) past)

-- ---- the asks
pub before_suc : (lines : List ScriptLine) (t : ℕ) → events_before lines (suc t) ≡ events_through lines t
unfolding events_before
before_suc lines t = refl

pub none_before : (lines : List ScriptLine) → events_before lines 0 ≡ []
unfolding events_before
none_before lines = refl

pub until_later : (lines : List ScriptLine) (t k : ℕ) → All (λ l. l.at ≤ t) lines → t < k → events_until lines k ≡ events_before lines k
until_later lines t k a l = none_at k lines (events_before lines k) (recursion_from_All (λ l. l.at < k) lines (All-weaker (λ l. l.at ≤ t) (λ l. l.at < k) (λ m h. omega arith) lines a))

-- a line changes nothing before its millisecond
before_same : (lines : List ScriptLine) (l : ScriptLine) (t : ℕ) → t ≤ l.at → events_before (lines ++ l ∷ []) t ≡ events_before lines t
unfolding events_before
before_same lines l zero h = refl
before_same lines l (suc t) h =
    let other : (l.at == t) ≡ false = grind (arith, nat_tests) in
    ap (λ (past : List Event). Ask t ∷ typed_at t (lines ++ l ∷ []) past) (before_same lines l t (omega arith))
    ∙ ap (λ (past : List Event). Ask t ∷ past) (typed_one t lines l (events_before lines t) ∙ ap (λ b. cond b (Text l.text ∷ typed_at t lines (events_before lines t)) (typed_at t lines (events_before lines t))) other)

pub until_one : (lines : List ScriptLine) (l : ScriptLine) (t : ℕ) → t ≡ l.at → events_until (lines ++ l ∷ []) t ≡ Text l.text ∷ events_until lines t
until_one lines l t e =
    let this : (l.at == t) ≡ true = grind (arith, nat_tests) in
    ap (λ (past : List Event). typed_at t (lines ++ l ∷ []) past) (before_same lines l t (omega arith))
    ∙ (typed_one t lines l (events_before lines t) ∙ ap (λ b. cond b (Text l.text ∷ typed_at t lines (events_before lines t)) (typed_at t lines (events_before lines t))) this)

-- ---- the last ask
ask_below : (t : ℕ) (lines : List ScriptLine) (past : List Event) → last_ask (typed_at t lines past) ≡ last_ask past
ask_below t [] past = refl
ask_below t (l ∷ more) past = ask_below t more (cond (l.at == t) (Text l.text ∷ past) past) ∙ go (l.at == t)
  where
    go : (b : Bool) → last_ask (cond b (Text l.text ∷ past) past) ≡ last_ask past
    go true = refl
    go false = refl

pub asked_before : (lines : List ScriptLine) (t : ℕ) → last_ask (events_before lines t) ≤ t
unfolding events_before
asked_before lines zero = omega arith
asked_before lines (suc t) = omega arith

pub asked_until : (lines : List ScriptLine) (t : ℕ) → last_ask (events_until lines t) ≤ t
asked_until lines t = let e = ask_below t lines (events_before lines t) in omega (arith, e, asked_before lines t)

-- where all lines were typed, further asks make a script
pub script_on : (lines : List ScriptLine) (t k : ℕ) → All (λ l. l.at ≤ t) lines → t < k → k ≤ 2 ^ 31 → IsScript (events_until lines t) → IsScript (events_before lines k)
script_on lines t zero a l m s = absurd (omega arith)
script_on lines t (suc k) a l m s = subst IsScript (sym (before_suc lines k)) (elim (cases_lt t k) [
  | inl lt ↦ (
    asked_until lines k,
    omega arith,
    subst IsScript (sym (until_later lines t k a lt)) (script_on lines t k a lt (omega arith) s),
  )
  | inr ge ↦ (let q : t ≡ k = omega arith in (asked_until lines k, omega arith, subst (λ n. IsScript (events_until lines n)) q s))
])
