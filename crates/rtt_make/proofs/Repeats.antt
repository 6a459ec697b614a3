-- A list without its repeats, line by line.
use Rattle.std.proofs.Common.{◌≡◌, Bool, true, false, cond, ◌&&◌, List, [], ◌∷◌, ◌++◌, inl, inr, refl, ap, sym, subst, ◌∙◌, true≢false, filter}
use Rattle.std.specs.Prelude.{not, ◌==◌, ◌||◌, if◌then◌else◌}
use Rattle.std.specs.List.{list_any}
use Rattle.std.proofs.lemmas.Bool.{and_parts, cases_Bool, eqb-true, eq-eqb, or_parts, or_cases, not-false as not_of}
use Rattle.std.proofs.lemmas.List.{append-nil}
use Rattle.std.proofs.lemmas.List.Elements.{filter-append}
use Rattle.file_spec.specs.declared.conference_lines.PlanLine.{PlanLine}
use Rattle.file_spec.specs.declared.conference_lines.What.{What}
use Rattle.file_spec.specs.declared.conference_lines.What.TheVariants.{Lose, Delay, Twice}
use Rattle.file_spec.specs.Conference.{is_same_packet, is_same_word}
use Rattle.command_spec.specs.Generated.{without_repeats}

-- ---- what is the same as the same is the same
words : (a b c : What) → is_same_word a b ≡ true → is_same_word b c ≡ true → is_same_word a c ≡ true
words Lose Lose c e f = f
words Twice Twice c e f = f
words (Delay x) (Delay y) Lose e f = f
words (Delay x) (Delay y) (Delay z) e f = refl
words (Delay x) (Delay y) Twice e f = f
words Lose (Delay y) c e f = absurd (true≢false (sym e))
words Lose Twice c e f = absurd (true≢false (sym e))
words Twice (Delay y) c e f = absurd (true≢false (sym e))
words Twice Lose c e f = absurd (true≢false (sym e))
words (Delay x) Lose c e f = absurd (true≢false (sym e))
words (Delay x) Twice c e f = absurd (true≢false (sym e))

three : (a b c : Bool) → a ≡ true → b ≡ true → c ≡ true → (a && (b && c)) ≡ true
three true true true e f g = refl
three true true false e f g = g
three true false c e f g = absurd (true≢false (sym f))
three false b c e f g = absurd (true≢false (sym e))

same : (a b c : PlanLine) → is_same_packet a b ≡ true → is_same_packet b c ≡ true → is_same_packet a c ≡ true
same a b c e f =
    let x = and_parts (is_same_word a.what b.what) (a.terminal == b.terminal && a.packet == b.packet) e in
    let y = and_parts (is_same_word b.what c.what) (b.terminal == c.terminal && b.packet == c.packet) f in
    let x2 = and_parts (a.terminal == b.terminal) (a.packet == b.packet) x.1 in
    let y2 = and_parts (b.terminal == c.terminal) (b.packet == c.packet) y.1 in
    three (is_same_word a.what c.what) (a.terminal == c.terminal) (a.packet == c.packet) (words a.what b.what c.what x.0 y.0)
    (eq-eqb a.terminal c.terminal (eqb-true a.terminal b.terminal x2.0 ∙ eqb-true b.terminal c.terminal y2.0))
    (eq-eqb a.packet c.packet (eqb-true a.packet b.packet x2.1 ∙ eqb-true b.packet c.packet y2.1))

-- ---- tests over a list and over what a filter leaves of it
record Gone (f k : PlanLine → Bool) : Type 0 where
  one : PlanLine
  passes : f one ≡ true
  out_of : k one ≡ false

some_gone : (f k : PlanLine → Bool) (ps : List PlanLine) → list_any f ps ≡ true → list_any f (filter k ps) ≡ false → Gone f k
some_gone f k [] e g = absurd (true≢false (sym e))
some_gone f k (p ∷ ps) e g = go (some_gone f k ps) (k p) refl (f p) refl e g
  where
    go : (list_any f ps ≡ true → list_any f (filter k ps) ≡ false → Gone f k) → (a : Bool) → k p ≡ a → (b : Bool) → f p ≡ b → (b || list_any f ps) ≡ true
        → list_any f (cond a (p ∷ filter k ps) (filter k ps)) ≡ false → Gone f k
    go later false ke true fe e g = record { one = p; passes = fe; out_of = ke }
    go later false ke false fe e g = later e g
    go later true ke true fe e g = absurd (true≢false (sym fe ∙ (or_parts (f p) (list_any f (filter k ps)) g).0))
    go later true ke false fe e g = later e (or_parts (f p) (list_any f (filter k ps)) g).1

none_left : (f k : PlanLine → Bool) (ps : List PlanLine) → list_any f ps ≡ false → list_any f (filter k ps) ≡ false
none_left f k [] e = refl
none_left f k (p ∷ ps) e = let r = or_parts (f p) (list_any f ps) e in go (none_left f k ps r.1) r.0 (k p)
  where
    go : list_any f (filter k ps) ≡ false → f p ≡ false → (a : Bool) → list_any f (cond a (p ∷ filter k ps) (filter k ps)) ≡ false
    go later here false = later
    go later here true = rw here later

one_kept : (k : PlanLine → Bool) (p : PlanLine) → k p ≡ true → filter k (p ∷ []) ≡ p ∷ []
one_kept k p e = rw e refl

one_lost : (k : PlanLine → Bool) (p : PlanLine) → k p ≡ false → filter k (p ∷ []) ≡ []
one_lost k p e = rw e refl

-- ---- one line more
abbrev says : PlanLine → PlanLine → Bool
says line p = is_same_packet p line

abbrev others : PlanLine → PlanLine → Bool
others p q = not (is_same_packet p q)

pub record More (line : PlanLine) (ps : List PlanLine) : Type 0 where
  pub planned : list_any (says line) (without_repeats ps) ≡ true → without_repeats (ps ++ line ∷ []) ≡ without_repeats ps
  pub unplanned : list_any (says line) (without_repeats ps) ≡ false → without_repeats (ps ++ line ∷ []) ≡ without_repeats ps ++ line ∷ []

planned_more : (line p : PlanLine) (ps : List PlanLine) → More line ps → list_any (says line) (without_repeats (p ∷ ps)) ≡ true
    → without_repeats (p ∷ (ps ++ line ∷ [])) ≡ without_repeats (p ∷ ps)
planned_more line p ps h e =
    let kept = without_repeats ps in
    elim (cases_Bool (list_any (says line) kept)) [
      | inl t ↦ ap (λ (l : List PlanLine). p ∷ filter (others p) l) (h.planned t)
      | inr f ↦
          let here : is_same_packet p line ≡ true = elim (or_cases (says line p) (list_any (says line) (filter (others p) kept)) e) [
            | inl q ↦ q
            | inr q ↦ absurd (true≢false (sym q ∙ none_left (says line) (others p) kept f))
          ] in
          let lost : others p line ≡ false = ap not here in
          ap (λ (l : List PlanLine). p ∷ l) (ap (filter (others p)) (h.unplanned f) ∙ (filter-append (others p) kept (line ∷ [])
          ∙ (ap (λ (l : List PlanLine). filter (others p) kept ++ l) (one_lost (others p) line lost) ∙ append-nil (filter (others p) kept))))
    ]

unplanned_more : (line p : PlanLine) (ps : List PlanLine) → More line ps → list_any (says line) (without_repeats (p ∷ ps)) ≡ false
    → without_repeats (p ∷ (ps ++ line ∷ [])) ≡ without_repeats (p ∷ ps) ++ line ∷ []
unplanned_more line p ps h e =
    let kept = without_repeats ps in
    let r = or_parts (says line p) (list_any (says line) (filter (others p) kept)) e in
    elim (cases_Bool (list_any (says line) kept)) [
      | inl t ↦
          let g = some_gone (says line) (others p) kept t r.1 in
          absurd (true≢false (sym (same p g.one line (not_of (is_same_packet p g.one) g.out_of) g.passes) ∙ r.0))
      | inr f ↦
          ap (λ (l : List PlanLine). p ∷ l) (ap (filter (others p)) (h.unplanned f) ∙ (filter-append (others p) kept (line ∷ [])
          ∙ ap (λ (l : List PlanLine). filter (others p) kept ++ l) (one_kept (others p) line (ap not r.0))))
    ]

pub more : (line : PlanLine) (ps : List PlanLine) → More line ps
more line [] = record { planned = λ e. absurd (true≢false (sym e)); unplanned = λ e. refl }
more line (p ∷ ps) = record { planned = planned_more line p ps (more line ps); unplanned = unplanned_more line p ps (more line ps) }

-- ---- the lines that are kept, and one line more
pub kept_more : (line : PlanLine) (front plan : List PlanLine) → plan ≡ without_repeats front → list_any (says line) plan ≡ false
    → plan ++ line ∷ [] ≡ without_repeats (front ++ line ∷ [])
kept_more line front plan e none =
    let P : List PlanLine → Type 0 = λ l. list_any (says line) l ≡ false in
    ap (λ (l : List PlanLine). l ++ line ∷ []) e ∙ sym ((more line front).unplanned (subst P e none))

pub kept_same : (line : PlanLine) (front plan : List PlanLine) → plan ≡ without_repeats front → list_any (says line) plan ≡ true
    → plan ≡ without_repeats (front ++ line ∷ [])
kept_same line front plan e some =
    let P : List PlanLine → Type 0 = λ l. list_any (says line) l ≡ true in
    e ∙ sym ((more line front).planned (subst P e some))

pub added : (line : PlanLine) (front plan : List PlanLine) → plan ≡ without_repeats front
    → (if list_any (says line) plan then plan else plan ++ line ∷ []) ≡ without_repeats (front ++ line ∷ [])
added line front plan e = go (list_any (says line) plan) refl
  where
    go : (b : Bool) → list_any (says line) plan ≡ b → (if b then plan else plan ++ line ∷ []) ≡ without_repeats (front ++ line ∷ [])
    go true some = kept_same line front plan e some
    go false none = kept_more line front plan e none
