-- A text that is escaped character by character.
use Rattle.std.proofs.Common.{◌≡◌, ℕ, ◌<◌, Bool, true, false, ◌&&◌, ◌||◌, cond, eqb, List, [], ◌∷◌, ◌++◌, refl, ap, sym, ◌∙◌, arith, append-nil, append_assoc}
use Rattle.std.specs.Prelude.{flat_map, codes, encode_utf8, All}
use Rattle.std.specs.Str.{IsAscii}
use Rattle.std.proofs.lemmas.Grind.{flat_map-append}
use Rattle.std.proofs.lemmas.Bool.Decides.{nat_tests}
use Rattle.std.proofs.lemmas.List.Elements.{All-head, All-tail, All-weaker}
use Rattle.std.proofs.lemmas.Str.{encode_ascii, chars-IsAscii}
use Rattle.std.proofs.lemmas.Str.Ascii.{IsAscii-from_all}
use Rattle.view_spec.specs.declared.classes.CharClass.{CharClass}
use Rattle.view_spec.specs.declared.classes.CharClass.TheVariants.{Marker, NewLine, Print}
use Rattle.view_spec.specs.Characters.{class_of, is_new_line}
use Rattle.view_spec.specs.Shown.{signs, ends_with_cr}
use Rattle.view_spec.proofs.Signs.{signs-append, signs-cr_lf}
use Rattle.view_spec.proofs.Steps.{plain_class}
use Rattle.command_spec.specs.Transcripts.{escaped, escaped_as, escaped_sign}
use Rattle.recording_views.specs.Escapes.{IsPlain, escaped_after}

-- the characters up to here with their escapes
abbrev pub escaped_signs : List ℕ → List ℕ
escaped_signs cs = flat_map escaped_sign (signs cs)

lf_class : class_of 0x0A ≡ NewLine
unfolding class_of
lf_class = refl

cr_class : class_of 0x0D ≡ NewLine
unfolding class_of
cr_class = refl

separator_class : class_of 0x2028 ≡ NewLine
unfolding class_of
separator_class = refl

paragraph_class : class_of 0x2029 ≡ NewLine
unfolding class_of
paragraph_class = refl

new_line_class : (c : ℕ) → is_new_line c ≡ true → class_of c ≡ NewLine
new_line_class c e = go (eqb c 0x0A) (eqb c 0x0D) (eqb c 0x2028) refl refl refl e
  where
    go : (a b d : Bool) → eqb c 0x0A ≡ a → eqb c 0x0D ≡ b → eqb c 0x2028 ≡ d → a || b || d || eqb c 0x2029 ≡ true → class_of c ≡ NewLine
    go true b d p q r f = let same : c ≡ 0x0A = grind (arith, nat_tests) in ap class_of same ∙ lf_class
    go false true d p q r f = let same : c ≡ 0x0D = grind (arith, nat_tests) in ap class_of same ∙ cr_class
    go false false true p q r f = let same : c ≡ 0x2028 = grind (arith, nat_tests) in ap class_of same ∙ separator_class
    go false false false p q r f = let same : c ≡ 0x2029 = grind (arith, nat_tests) in ap class_of same ∙ paragraph_class

-- a new line, of whatever kind, is one
pub new_line_sign : (c : ℕ) → is_new_line c ≡ true → escaped_sign 0x0A ≡ escaped_sign c
new_line_sign c e = ap (λ k. escaped_as k 0x0A) lf_class ∙ sym (ap (λ k. escaped_as k c) (new_line_class c e))

escaped_one : (c : ℕ) → escaped_signs (c ∷ []) ≡ escaped_sign c
escaped_one c = go (eqb c 0x0D) (is_new_line c) refl
  where
    go : (r n : Bool) → is_new_line c ≡ n → flat_map escaped_sign (cond (r && false) [] (cond n (0x0A ∷ []) (c ∷ []))) ≡ escaped_sign c
    go true true e = append-nil (escaped_sign 0x0A) ∙ new_line_sign c e
    go false true e = append-nil (escaped_sign 0x0A) ∙ new_line_sign c e
    go true false e = append-nil (escaped_sign c)
    go false false e = append-nil (escaped_sign c)

-- one more character
pub escaped_push : (cs : List ℕ) (c : ℕ) → escaped_signs (cs ++ c ∷ []) ≡ escaped_signs cs ++ escaped_after (ends_with_cr cs) c
escaped_push cs c = go (eqb c 0x0A) (ends_with_cr cs) refl refl
  where
    apart : ends_with_cr cs && eqb c 0x0A ≡ false → escaped_signs (cs ++ c ∷ []) ≡ escaped_signs cs ++ escaped_sign c
    apart e = ap (flat_map escaped_sign) (signs-append cs (c ∷ []) e)
        ∙ (flat_map-append escaped_sign (signs cs) (signs (c ∷ [])) ∙ ap (λ l. escaped_signs cs ++ l) (escaped_one c))

    go : (lf after : Bool) → eqb c 0x0A ≡ lf → ends_with_cr cs ≡ after → escaped_signs (cs ++ c ∷ []) ≡ escaped_signs cs ++ cond (lf && after) [] (escaped_sign c)
    go true true e f =
        let same : c ≡ 0x0A = grind (arith, nat_tests) in
        ap (λ x. escaped_signs (cs ++ x ∷ [])) same ∙ (ap (flat_map escaped_sign) (signs-cr_lf cs f) ∙ sym (append-nil (escaped_signs cs)))
    go true false e f = apart (rw (e, f) refl)
    go false true e f = apart (rw (e, f) refl)
    go false false e f = apart (rw (e, f) refl)

-- and what was appended so far
pub appended_push : (old now new : List ℕ) (cs : List ℕ) (c : ℕ) (after : Bool) → after ≡ ends_with_cr cs → now ≡ old ++ escaped_signs cs → new ≡ now ++ escaped_after after c
    → new ≡ old ++ escaped_signs (cs ++ c ∷ [])
appended_push old now new cs c after a n e =
    e ∙ (ap (λ l. l ++ escaped_after after c) n ∙ (ap (λ b. (old ++ escaped_signs cs) ++ escaped_after b c) a
    ∙ (append_assoc old (escaped_signs cs) (escaped_after (ends_with_cr cs) c) ∙ ap (λ l. old ++ l) (sym (escaped_push cs c)))))

-- ---- a character by its class
-- what is no new line is no LF
no_lf : (c : ℕ) (k : CharClass) → class_of c ≡ k → (NewLine ≡ k → ⊥) → eqb c 0x0A ≡ false
no_lf c k e other = go (eqb c 0x0A) refl
  where
    go : (b : Bool) → eqb c 0x0A ≡ b → b ≡ false
    go true p = let same : c ≡ 0x0A = grind (arith, nat_tests) in absurd (other (sym lf_class ∙ (ap class_of (sym same) ∙ e)))
    go false p = refl

pub escaped_by_class : (c : ℕ) (after : Bool) (k : CharClass) → class_of c ≡ k → (NewLine ≡ k → ⊥) → escaped_after after c ≡ escaped_as k c
escaped_by_class c after k e other = ap (λ b. cond (b && after) [] (escaped_sign c)) (no_lf c k e other) ∙ ap (λ j. escaped_as j c) e

-- what prints and is no backslash
pub escaped_print : (c : ℕ) (after : Bool) → class_of c ≡ Print → (c ≡ 92 → ⊥) → escaped_after after c ≡ encode_utf8 c
escaped_print c after e n =
    let other : eqb c 92 ≡ false = grind (arith, nat_tests) in
    escaped_by_class c after Print e (λ q. cc) ∙ ap (λ b. cond b (codes "\\\\") (encode_utf8 c)) other

-- and a marker
pub escaped_marker : (c : ℕ) (after : Bool) → class_of c ≡ Marker → escaped_after after c ≡ encode_utf8 c
escaped_marker c after e = escaped_by_class c after Marker e (λ q. cc)

-- ---- a text that stands for itself
plain_sign : (c : ℕ) → IsPlain c → escaped_sign c ≡ c ∷ []
plain_sign c p =
    let hi = p.to in
    let other : eqb c 92 ≡ false = let n = p.other in grind (arith, nat_tests) in
    ap (λ k. escaped_as k c) (plain_class c p.from p.to) ∙ (ap (λ b. cond b (codes "\\\\") (encode_utf8 c)) other ∙ encode_ascii c (omega (arith, hi)))

plain_signs : (cs : List ℕ) → All IsPlain cs → signs cs ≡ cs
plain_signs [] a = refl
plain_signs (c ∷ cs) a =
    let p = All-head IsPlain c cs a in
    let lo = p.from in
    let hi = p.to in
    let d : eqb c 0x0A ≡ false = grind (arith, nat_tests) in
    let e : eqb c 0x0D ≡ false = grind (arith, nat_tests) in
    let f : eqb c 0x2028 ≡ false = grind (arith, nat_tests) in
    let g : eqb c 0x2029 ≡ false = grind (arith, nat_tests) in
    rw (d, e, f, g) (ap (λ l. c ∷ l) (plain_signs cs (All-tail IsPlain c cs a)))

plain_characters : (cs : List ℕ) → All IsPlain cs → flat_map escaped_sign cs ≡ cs
plain_characters [] a = refl
plain_characters (c ∷ cs) a =
    let more = plain_characters cs (All-tail IsPlain c cs a) in
    ap (λ l. l ++ flat_map escaped_sign cs) (plain_sign c (All-head IsPlain c cs a)) ∙ ap (λ l. c ∷ l) more

plain_ascii : (text : List ℕ) → All IsPlain text → IsAscii text
plain_ascii text a = IsAscii-from_all text (All-weaker IsPlain (λ (b : ℕ). b < 128) (λ (b : ℕ) (p : IsPlain b). let hi = p.to in omega (arith, hi)) text a)

pub plain_escaped : (text : List ℕ) → All IsPlain text → escaped text ≡ text
unfolding escaped
plain_escaped text a =
    ap (λ cs. flat_map escaped_sign (signs cs)) (chars-IsAscii text (plain_ascii text a))
    ∙ (ap (flat_map escaped_sign) (plain_signs text a) ∙ plain_characters text a)
