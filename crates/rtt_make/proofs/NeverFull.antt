-- Of a script with little text no line is full.
use Rattle.std.proofs.Common.{◌≡◌, ◌+◌, ◌*◌, ◌≤◌, ℕ, zero, suc, Bool, true, false, inl, inr, Option, None, Some, List, [], ◌∷◌, ◌++◌, length, length-append, length-drop, refl, ap, sym, subst, ◌∙◌, arith, true≢false}
use Rattle.std.specs.Prelude.{All, nat_le, nat_lt, ◌==◌, if◌then◌else◌}
use Rattle.std.proofs.lemmas.Bool.{cases_Bool, cases_lt, eqb-true, eq-eqb, le-leb, ltb-true, lt-leb as not_le}
use Rattle.std.proofs.lemmas.List.Elements.{All-head, All-tail, All-push}
use Rattle.file_spec.specs.Script.{ScriptLine}
use Rattle.stream_spec.specs.declared.limits.TheConstants.{MOST_WAITING_OCTETS}
use Rattle.stream_spec.specs.Typed.{Event, Text, Ask, carried, entries, typed, waiting}
use Rattle.command_spec.specs.Scripts.{Sending, events_before, events_until, full_below, full_line, typed_at}

-- ---- tests on numbers
not_eq : (a b : ℕ) → (a ≡ b → ⊥) → (a == b) ≡ false
not_eq a b h = elim (cases_Bool (a == b)) [ inl t ↦ absurd (h (eqb-true a b t)) | inr f ↦ f ]

not_lt : (a b : ℕ) → b ≤ a → nat_lt a b ≡ false
not_lt a b h = elim (cases_Bool (nat_lt a b)) [ inl t ↦ let x = ltb-true a b t in absurd (omega arith) | inr f ↦ f ]

-- ---- the octets of lines, of those before the moment t, and of those at it
abbrev tally : (ScriptLine → ℕ) → List ScriptLine → ℕ
tally f [] = 0
tally f (l ∷ ls) = f l + tally f ls

abbrev size : ScriptLine → ℕ
size l = length l.text

abbrev earlier : ℕ → ScriptLine → ℕ
earlier t l = if nat_le t l.at then 0 else length l.text

abbrev now : ℕ → ScriptLine → ℕ
now t l = if l.at == t then length l.text else 0

one : (a t n : ℕ) → (if nat_le t a then 0 else n) + (if a == t then n else 0) ≡ (if nat_le (suc t) a then 0 else n)
one a t n = elim (cases_lt a t) [
  | inl less ↦
      let x = not_le t a less in let y = not_eq a t (λ e. omega (arith, e)) in let z = not_le (suc t) a (omega arith) in
      rw x (rw y (rw z (omega arith)))
  | inr more ↦ elim (cases_lt t a) [
    | inl less ↦
        let x = le-leb t a (omega arith) in let y = not_eq a t (λ e. omega (arith, e)) in let z = le-leb (suc t) a (omega arith) in
        rw x (rw y (rw z (omega arith)))
    | inr same ↦
        let x = le-leb t a (omega arith) in let y = eq-eqb a t (omega arith) in let z = not_le (suc t) a (omega arith) in
        rw x (rw y (rw z (omega arith)))
  ]
]

all_zero : (lines : List ScriptLine) → tally (earlier 0) lines ≡ 0
all_zero [] = refl
all_zero (l ∷ ls) = let x = le-leb 0 l.at (omega arith) in let y = all_zero ls in rw x (omega (arith, y))

later : (t : ℕ) (lines : List ScriptLine) → tally (earlier t) lines + tally (now t) lines ≡ tally (earlier (suc t)) lines
later t [] = refl
later t (l ∷ ls) = let x = one l.at t (length l.text) in let y = later t ls in omega (arith, x, y)

no_more : (t : ℕ) (lines : List ScriptLine) → tally (earlier t) lines ≤ tally size lines
no_more t [] = omega arith
no_more t (l ∷ ls) = let y = no_more t ls in go (nat_le t l.at) y
  where
    go : (b : Bool) → tally (earlier t) ls ≤ tally size ls → (if b then 0 else length l.text) + tally (earlier t) ls ≤ length l.text + tally size ls
    go true y = omega arith
    go false y = omega arith

-- ---- what was typed by then
here : (t : ℕ) (lines : List ScriptLine) (past : List Event) → length (typed (typed_at t lines past)) ≡ length (typed past) + tally (now t) lines
here t [] past = omega arith
here t (l ∷ ls) past = go (λ p. here t ls p) (l.at == t)
  where
    go : ((p : List Event) → length (typed (typed_at t ls p)) ≡ length (typed p) + tally (now t) ls) → (b : Bool)
        → length (typed (typed_at t ls (if b then Text l.text ∷ past else past))) ≡ length (typed past) + ((if b then length l.text else 0) + tally (now t) ls)
    go h true = let x = h (Text l.text ∷ past) in omega (arith, x, length-append (typed past) l.text)
    go h false = let x = h past in omega (arith, x)

by_then : (lines : List ScriptLine) (t : ℕ) → length (typed (events_before lines t)) ≡ tally (earlier t) lines
unfolding events_before
by_then lines zero = sym (all_zero lines)
by_then lines (suc t) =
    let x = here t lines (events_before lines t) in
    let y = by_then lines t in
    let z = later t lines in
    omega (arith, x, y, z)

typed_until : (lines : List ScriptLine) (t : ℕ) → length (typed (events_until lines t)) ≤ tally size lines
typed_until lines t =
    let x = here t lines (events_before lines t) in
    let y = by_then lines t in
    let z = later t lines in
    let w = no_more (suc t) lines in
    omega (arith, x, y, z, w)

waits : (s : Sending) (lines : List ScriptLine) (t : ℕ) → length (waiting s.stream s.interval (events_until lines t)) ≤ tally size lines
waits s lines t =
    let past = events_until lines t in
    let x = length-drop (length (carried (entries s.stream s.interval past))) (typed past) in
    let y = typed_until lines t in
    omega (arith, x, y)

-- ---- lines of at most 15 octets, of which there are few
abbrev Short : ScriptLine → Type 0
Short l = length l.text ≤ 15

few : (lines : List ScriptLine) → All Short lines → tally size lines ≤ 15 * length lines
few [] h = omega arith
few (l ∷ ls) h = let x = All-head Short l ls h in let y = few ls (All-tail Short l ls h) in omega (arith, x, y)

pub never_below : (s : Sending) (above lines : List ScriptLine) → All Short above → All Short lines → length above + length lines ≤ 1000 → full_below s above lines ≡ None
never_below s above [] h k n = refl
never_below s above (line ∷ more) h k n =
    let x = waits s above line.at in
    let y = few above h in
    let z = All-head Short line more k in
    let fits : length (waiting s.stream s.interval (events_until above line.at)) + length line.text ≤ MOST_WAITING_OCTETS = omega (arith, x, y, z, n) in
    let next = never_below s (above ++ line ∷ []) more (All-push Short above line h z) (All-tail Short line more k) (omega (arith, n, length-append above (line ∷ []))) in
    rw (not_lt MOST_WAITING_OCTETS (length (waiting s.stream s.interval (events_until above line.at)) + length line.text) fits) next

pub never_full : (s : Sending) (lines : List ScriptLine) → All Short lines → length lines ≤ 1000 → full_line s lines ≡ None
never_full s lines h n = never_below s [] lines (λ i d within. absurd (omega arith)) h (omega (arith, n))
