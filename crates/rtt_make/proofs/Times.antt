-- Drawings in a row, one by one.
use Rattle.std.proofs.lemmas.List.{append-nil}
use Rattle.std.proofs.Common.{◌≡◌, ℕ, zero, suc, ◌+◌, List, [], ◌∷◌, ◌++◌, append_assoc, map, refl, ap, sym, subst, ◌∙◌}
use Rattle.std.specs.List.{range_with_len}
use Rattle.file_spec.specs.Script.{ScriptLine}
use Rattle.command_spec.specs.Draws.{Drawing, draw, times}
use Rattle.command_spec.specs.Generated.{script_from, text}

-- what was drawn, with so many more
abbrev pub and_more : {A : Type 0} → List A → Drawing A → ℕ → ℕ → List A × ℕ
and_more front drawing n state = (front ++ (times n drawing state).0, (times n drawing state).1)

pub begins : {A : Type 0} (drawing : Drawing A) (n state : ℕ) → times n drawing state ≡ and_more [] drawing n state
begins drawing n state = refl

pub one_more : {A : Type 0} (drawing : Drawing A) (front : List A) (n state after : ℕ) (x : A) → drawing state ≡ (x, after)
    → and_more front drawing (suc n) state ≡ and_more (front ++ x ∷ []) drawing n after
unfolding times
one_more {A} drawing front n state after x e =
    let P : A × ℕ → Type 0 = λ p. (front ++ p.0 ∷ (times n drawing p.1).0, (times n drawing p.1).1) ≡ and_more (front ++ x ∷ []) drawing n after in
    subst P (sym e) (ap (λ (l : List A). (l, (times n drawing after).1)) (sym (append_assoc front (x ∷ []) (times n drawing after).0)))

pub ends : {A : Type 0} (drawing : Drawing A) (front : List A) (state : ℕ) → and_more front drawing zero state ≡ (front, state)
unfolding times
ends {A} drawing front state = ap (λ (l : List A). (l, state)) (append-nil front)

-- ---- the lines of a script
abbrev pub and_script : List ScriptLine → ℕ → ℕ → ℕ → List ScriptLine × ℕ
and_script front n at state = (front ++ (script_from n at state).0, (script_from n at state).1)

pub line_more : (front : List ScriptLine) (n at state said pause : ℕ) (octets : List ℕ) (late : ℕ) → text state ≡ (octets, said) → draw 900 said ≡ (late, pause)
    → and_script front (suc n) at state ≡ and_script (front ++ record { line = 0; at = at; text = octets } ∷ []) n (at + (100 + late)) pause
unfolding script_from
line_more front n at state said pause octets late e f =
    let line : ScriptLine = record { line = 0; at = at; text = octets } in
    let P : List ℕ × ℕ → Type 0 = λ t. let p = draw 900 t.1 in let rest = script_from n (at + (100 + p.0)) p.1 in
    (front ++ record { line = 0; at = at; text = t.0 } ∷ rest.0, rest.1) ≡ and_script (front ++ line ∷ []) n (at + (100 + late)) pause in
    let Q : ℕ × ℕ → Type 0 = λ p. let rest = script_from n (at + (100 + p.0)) p.1 in
    (front ++ line ∷ rest.0, rest.1) ≡ and_script (front ++ line ∷ []) n (at + (100 + late)) pause in
    let rest = script_from n (at + (100 + late)) pause in
    subst P (sym e) (subst Q (sym f) (ap (λ (l : List ScriptLine). (l, rest.1)) (sym (append_assoc front (line ∷ []) rest.0))))

pub script_ends : (front : List ScriptLine) (at state : ℕ) → and_script front zero at state ≡ (front, state)
unfolding script_from
script_ends front at state = ap (λ (l : List ScriptLine). (l, state)) (append-nil front)

-- ---- one step of a loop, and its end
pub step : {A : Type 0} (drawing : Drawing A) (whole : List A × ℕ) (front : List A) (left fewer state after : ℕ) (x : A)
    → whole ≡ and_more front drawing left state → left ≡ suc fewer → drawing state ≡ (x, after) → whole ≡ and_more (front ++ x ∷ []) drawing fewer after
step {A} drawing whole front left fewer state after x e same drawn =
    let P : ℕ → Type 0 = λ n. whole ≡ and_more front drawing n state in
    subst P same e ∙ one_more drawing front fewer state after x drawn

pub over : {A : Type 0} (drawing : Drawing A) (whole : List A × ℕ) (front : List A) (left state : ℕ)
    → whole ≡ and_more front drawing left state → left ≡ 0 → whole ≡ (front, state)
over {A} drawing whole front left state e none =
    let P : ℕ → Type 0 = λ n. whole ≡ and_more front drawing n state in
    subst P none e ∙ ends drawing front state

pub script_step : (whole : List ScriptLine × ℕ) (front : List ScriptLine) (left fewer at state said pause : ℕ) (octets : List ℕ) (late : ℕ)
    → whole ≡ and_script front left at state → left ≡ suc fewer → text state ≡ (octets, said) → draw 900 said ≡ (late, pause)
    → whole ≡ and_script (front ++ record { line = 0; at = at; text = octets } ∷ []) fewer (at + (100 + late)) pause
script_step whole front left fewer at state said pause octets late e same typed drawn =
    let P : ℕ → Type 0 = λ n. whole ≡ and_script front n at state in
    subst P same e ∙ line_more front fewer at state said pause octets late typed drawn

pub script_over : (whole : List ScriptLine × ℕ) (front : List ScriptLine) (left at state : ℕ) → whole ≡ and_script front left at state → left ≡ 0 → whole ≡ (front, state)
script_over whole front left at state e none =
    let P : ℕ → Type 0 = λ n. whole ≡ and_script front n at state in
    subst P none e ∙ script_ends front at state

-- ---- numbers in a row
pub range_step : {X : Type 0} (f : ℕ → X) (whole front : List X) (left fewer n : ℕ) (x : X) → whole ≡ front ++ map f (range_with_len n left) → left ≡ suc fewer → x ≡ f n
    → whole ≡ (front ++ x ∷ []) ++ map f (range_with_len (n + 1) fewer)
range_step {X} f whole front left fewer n x e same is =
    let P : ℕ → Type 0 = λ k. whole ≡ front ++ map f (range_with_len n k) in
    let Q : X → Type 0 = λ l. whole ≡ (front ++ l ∷ []) ++ map f (range_with_len (n + 1) fewer) in
    subst Q (sym is) (subst P same e ∙ sym (append_assoc front (f n ∷ []) (map f (range_with_len (n + 1) fewer))))

pub range_over : {X : Type 0} (f : ℕ → X) (whole front : List X) (left n : ℕ) → whole ≡ front ++ map f (range_with_len n left) → left ≡ 0 → whole ≡ front
range_over {X} f whole front left n e none =
    let P : ℕ → Type 0 = λ k. whole ≡ front ++ map f (range_with_len n k) in
    subst P none e ∙ append-nil front
