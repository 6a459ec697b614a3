-- A text that is put behind the others leaves them as they are.
use Rattle.std.proofs.Common.{◌≡◌, ℕ, ◌-◌, ◌≤◌, List, [], ◌∷◌, ◌++◌, length, take, drop, ap, ◌∙◌, arith, length-append}
use Rattle.std.proofs.lemmas.List.{length-drop, take-append-le, drop-append-le, drop_all, take_all}
use Rattle.std.proofs.lemmas.List.Elements.{All-head, All-tail}
use Rattle.file_spec.specs.Script.{ScriptLine}
use Rattle.script_text.specs.declared.spans.Span.{Span}
use Rattle.script_text.specs.Spans.{line_in, lines_in, IsWithin, AreWithin}

length-drop_lem : (n : ℕ) (xs : List ℕ) → n ≤ length xs → length (drop n xs) ≡ length xs - n
length-drop_lem n xs h = length-drop n xs

same_text : (texts t : List ℕ) (s : Span) → IsWithin texts s → take (s.to - s.from) (drop s.from (texts ++ t)) ≡ take (s.to - s.from) (drop s.from texts)
same_text texts t s w =
    let from : s.from ≤ length texts = let a = w.from in let b = w.to in omega arith in
    let to : s.to - s.from ≤ length (drop s.from texts) = let b = w.to in omega (arith, length-drop_lem s.from texts from) in
    ap (λ d. take (s.to - s.from) d) (drop-append-le s.from texts t from) ∙ take-append-le (s.to - s.from) (drop s.from texts) t to

new_text : (texts t : List ℕ) (s : Span) → s.from ≡ length texts → s.to ≡ length (texts ++ t) → take (s.to - s.from) (drop s.from (texts ++ t)) ≡ t
new_text texts t s from to =
    let low : s.from ≤ length texts = omega (arith, from) in
    let past : length texts ≤ s.from = omega (arith, from) in
    let long : length t ≤ s.to - s.from = omega (arith, from, to, length-append texts t) in
    ap (λ d. take (s.to - s.from) d) (drop-append-le s.from texts t low ∙ ap (λ d. d ++ t) (drop_all s.from texts past)) ∙ take_all (s.to - s.from) t long

line_is : (a b : List ℕ) (s : Span) → a ≡ b → let x : ScriptLine = record { line = s.line; at = s.at; text = a } in let y : ScriptLine = record { line = s.line; at = s.at; text = b } in x ≡ y
line_is a b s e = ap (λ (t : List ℕ). let x : ScriptLine = record { line = s.line; at = s.at; text = t } in x) e

pub lines_pushed : (texts t : List ℕ) (spans : List Span) (s : Span) → AreWithin texts spans → s.from ≡ length texts → s.to ≡ length (texts ++ t)
    → lines_in (texts ++ t) (spans ++ s ∷ []) ≡ lines_in texts spans ++ record { line = s.line; at = s.at; text = t } ∷ []
lines_pushed texts t [] s w from to = ap (λ x. x ∷ []) (line_is (take (s.to - s.from) (drop s.from (texts ++ t))) t s (new_text texts t s from to))
lines_pushed texts t (x ∷ more) s w from to =
    ap (λ y. y ∷ lines_in (texts ++ t) (more ++ s ∷ [])) (line_is (take (x.to - x.from) (drop x.from (texts ++ t))) (take (x.to - x.from) (drop x.from texts)) x (same_text texts t x (All-head (λ y. IsWithin texts y) x more w)))
    ∙ ap (λ ys. line_in texts x ∷ ys) (lines_pushed texts t more s (All-tail (λ y. IsWithin texts y) x more w) from to)
