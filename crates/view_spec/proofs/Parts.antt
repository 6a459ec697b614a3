-- A text with a marker in it: what is shown before the marker and behind it, and how many markers are seen.
use Rattle.std.proofs.Common.{◌≡◌, ℕ, suc, ◌+◌, ◌<◌, Bool, true, false, ◌||◌, ◌&&◌, not, cond, eqb, List, [], ◌∷◌, ◌++◌, map, length, refl, sym, ap, ap₂, ◌∙◌, arith, append-nil, encode_utf8_all, IsUtf8}
use Rattle.std.specs.List.{list_all, concat, onto_first}
use Rattle.std.specs.Char.{encode_utf8}
use Rattle.std.specs.Str.{chars}
use Rattle.std.proofs.Math.Utf8.{scalar}
use Rattle.std.proofs.lemmas.Bool.{and_parts, and_right}
use Rattle.std.proofs.lemmas.Bool.Decides.{nat_tests}
use Rattle.std.proofs.lemmas.Str.{chars-append, chars-encodes, encodes-append, scalars-chars}
use Rattle.view_spec.specs.declared.classes.CharClass.TheVariants.{Erase, Bell, NewLine, Silent, Marker, Print}
use Rattle.view_spec.specs.Characters.{class_of, is_bell, is_erasable, is_marker, is_new_line, is_silent}
use Rattle.view_spec.specs.Shown.{Display, bells, begins_with_lf, ends_with_cr, lines_behind, lines_of, marker_count, shown, signs, stays, survivors, takes_back, to_marker, with_marker_between}
use Rattle.view_spec.proofs.Erasing.{cond_append, survivors_marked}
use Rattle.view_spec.proofs.Kept.{all_signs, all_survivors, and_both, lf_is_scalar, scalars_same}
use Rattle.view_spec.proofs.Lines.{some_line}
use Rattle.view_spec.proofs.Signs.{signs-append}
use Rattle.view_spec.proofs.Steps.{bells-append}

marker_class : class_of 0xFFFD ≡ Marker
unfolding class_of
marker_class = refl

marker_counts : is_marker (class_of 0xFFFD) ≡ true
marker_counts = ap is_marker marker_class

marker_char : chars (encode_utf8 0xFFFD) ≡ 0xFFFD ∷ []
unfolding chars encode_utf8
marker_char = refl

marker_utf8 : IsUtf8 (encode_utf8 0xFFFD)
marker_utf8 = (0xFFFD ∷ [], (refl, append-nil (encode_utf8 0xFFFD)))

-- ---- signs and survivors
signs_parts : (xs ys : List ℕ) → signs (xs ++ 0xFFFD ∷ ys) ≡ signs xs ++ 0xFFFD ∷ signs ys
signs_parts xs ys = signs-append xs (0xFFFD ∷ ys) (and_right (ends_with_cr xs) false refl)

to_marker_parts : (xs ys : List ℕ) → to_marker (xs ++ 0xFFFD ∷ ys) ≡ to_marker xs
to_marker_parts [] ys = rw marker_counts refl
to_marker_parts (c ∷ xs) ys = ap (λ l. cond (is_marker (class_of c)) [] (c ∷ l)) (to_marker_parts xs ys)

takes_back_parts : (xs ys : List ℕ) → takes_back (xs ++ 0xFFFD ∷ ys) ≡ takes_back xs
takes_back_parts xs ys = rw (to_marker_parts xs ys) refl

survivors_parts : (xs ys : List ℕ) → survivors (xs ++ 0xFFFD ∷ ys) ≡ survivors xs ++ 0xFFFD ∷ survivors ys
survivors_parts [] ys = survivors_marked 0xFFFD ys marker_counts
survivors_parts (c ∷ xs) ys =
    ap₂ (λ b l. cond (is_marker (class_of c) || (is_erasable (class_of c) && not b)) (c ∷ l) l) (takes_back_parts xs ys) (survivors_parts xs ys)
    ∙ cond_append (stays c xs) c (survivors xs) (0xFFFD ∷ survivors ys)

-- ---- lines
behind_nothing : (lines : List (List ℕ)) → 0 < length lines → lines_behind ([] ∷ []) lines ≡ lines
behind_nothing [] h = absurd (omega arith)
behind_nothing (line ∷ lines) h = refl

behind_one_more : (line : List ℕ) (lines after : List (List ℕ)) → 0 < length lines → lines_behind (line ∷ lines) after ≡ line ∷ lines_behind lines after
behind_one_more line [] after h = absurd (omega arith)
behind_one_more line (more ∷ lines) after h = refl

behind_onto : (c : ℕ) (lines after : List (List ℕ)) → 0 < length lines → onto_first c (lines_behind lines after) ≡ lines_behind (onto_first c lines) after
behind_onto c [] after h = absurd (omega arith)
behind_onto c (line ∷ []) [] h = refl
behind_onto c (line ∷ []) (next ∷ after) h = refl
behind_onto c (line ∷ more ∷ lines) after h = refl

lines_append : (xs ys : List ℕ) → lines_of (xs ++ ys) ≡ lines_behind (lines_of xs) (lines_of ys)
lines_append [] ys = sym (behind_nothing (lines_of ys) (some_line ys))
lines_append (c ∷ xs) ys = go (eqb c 0x0A) (lines_append xs ys)
  where
    go : (b : Bool) → lines_of (xs ++ ys) ≡ lines_behind (lines_of xs) (lines_of ys)
        → cond b ([] ∷ lines_of (xs ++ ys)) (onto_first c (lines_of (xs ++ ys))) ≡ lines_behind (cond b ([] ∷ lines_of xs) (onto_first c (lines_of xs))) (lines_of ys)
    go true e = ap (λ l. [] ∷ l) e ∙ sym (behind_one_more [] (lines_of xs) (lines_of ys) (some_line xs))
    go false e = ap (onto_first c) e ∙ behind_onto c (lines_of xs) (lines_of ys) (some_line xs)

encoded_behind : (lines after : List (List ℕ)) → map encode_utf8_all (lines_behind lines after) ≡ lines_behind (map encode_utf8_all lines) (map encode_utf8_all after)
encoded_behind [] after = refl
encoded_behind (line ∷ []) [] = refl
encoded_behind (line ∷ []) (next ∷ after) = ap (λ l. l ∷ map encode_utf8_all after) (encodes-append line next)
encoded_behind (line ∷ more ∷ lines) after = ap (λ l. encode_utf8_all line ∷ l) (encoded_behind (more ∷ lines) after)

marker_line : map encode_utf8_all (lines_of (0xFFFD ∷ [])) ≡ encode_utf8 0xFFFD ∷ []
marker_line = ap (λ l. l ∷ []) (append-nil (encode_utf8 0xFFFD))

-- the lines of signs before a marker and behind it
lines_parts : (xs ys : List ℕ) → map encode_utf8_all (lines_of (xs ++ 0xFFFD ∷ ys))
    ≡ lines_behind (map encode_utf8_all (lines_of xs)) (lines_behind (encode_utf8 0xFFFD ∷ []) (map encode_utf8_all (lines_of ys)))
lines_parts xs ys =
    ap (map encode_utf8_all) (lines_append xs (0xFFFD ∷ ys) ∙ ap (lines_behind (lines_of xs)) (lines_append (0xFFFD ∷ []) ys))
    ∙ (encoded_behind (lines_of xs) (lines_behind (lines_of (0xFFFD ∷ [])) (lines_of ys))
    ∙ ap (lines_behind (map encode_utf8_all (lines_of xs))) (encoded_behind (lines_of (0xFFFD ∷ [])) (lines_of ys)
    ∙ ap (λ l. lines_behind l (map encode_utf8_all (lines_of ys))) marker_line))

-- ---- what is shown
chars_parts : (a b : List ℕ) → IsUtf8 a → chars (a ++ (encode_utf8 0xFFFD ++ b)) ≡ chars a ++ 0xFFFD ∷ chars b
chars_parts a b u =
    chars-append a (encode_utf8 0xFFFD ++ b) u
    ∙ ap (λ l. chars a ++ l) (chars-append (encode_utf8 0xFFFD) b marker_utf8 ∙ ap (λ l. l ++ chars b) marker_char)

stand_parts : (xs ys : List ℕ) → survivors (signs (xs ++ 0xFFFD ∷ ys)) ≡ survivors (signs xs) ++ 0xFFFD ∷ survivors (signs ys)
stand_parts xs ys = ap survivors (signs_parts xs ys) ∙ survivors_parts (signs xs) (signs ys)

bells_marker : (ys : List ℕ) → bells (0xFFFD ∷ ys) ≡ bells ys
bells_marker ys = let e : is_bell (class_of 0xFFFD) ≡ false = ap is_bell marker_class in rw e refl

bells_parts : (xs ys : List ℕ) → bells (xs ++ 0xFFFD ∷ ys) ≡ bells xs + bells ys
bells_parts xs ys = bells-append xs (0xFFFD ∷ ys) ∙ ap (λ n. bells xs + n) (bells_marker ys)

pub shown_parts : (a b : List ℕ) → IsUtf8 a → shown (a ++ (encode_utf8 0xFFFD ++ b)) ≡ with_marker_between (shown a) (shown b)
unfolding shown
shown_parts a b u =
    let lines = ap (λ l. map encode_utf8_all (lines_of (survivors (signs l)))) (chars_parts a b u)
    ∙ (ap (λ l. map encode_utf8_all (lines_of l)) (stand_parts (chars a) (chars b)) ∙ lines_parts (survivors (signs (chars a))) (survivors (signs (chars b)))) in
    let rung : bells (chars (a ++ (encode_utf8 0xFFFD ++ b))) ≡ bells (chars a) + bells (chars b) = ap bells (chars_parts a b u) ∙ bells_parts (chars a) (chars b) in
    ap₂ (λ (l : List (List ℕ)) (n : ℕ). let d : Display = record { lines = l; bells = n } in d) lines rung

-- ---- how many markers there are
markers_one : (c : ℕ) (cs : List ℕ) → is_marker (class_of c) ≡ true → marker_count (c ∷ cs) ≡ suc (marker_count cs)
markers_one c cs e = rw e refl

markers_none : (c : ℕ) (cs : List ℕ) → is_marker (class_of c) ≡ false → marker_count (c ∷ cs) ≡ marker_count cs
markers_none c cs e = rw e refl

-- with one character more
markers_more : (c : ℕ) (xs ys : List ℕ) → marker_count xs ≡ marker_count ys → marker_count (c ∷ xs) ≡ marker_count (c ∷ ys)
markers_more c xs ys e = go (is_marker (class_of c)) refl
  where
    go : (b : Bool) → is_marker (class_of c) ≡ b → marker_count (c ∷ xs) ≡ marker_count (c ∷ ys)
    go true h = markers_one c xs h ∙ (ap suc e ∙ sym (markers_one c ys h))
    go false h = markers_none c xs h ∙ (e ∙ sym (markers_none c ys h))

no_marker : (a b s m : Bool) → is_marker (cond a Erase (cond b Bell (cond true NewLine (cond s Silent (cond m Marker Print))))) ≡ false
no_marker true b s m = refl
no_marker false true s m = refl
no_marker false false s m = refl

new_line_unmarked : (c : ℕ) → is_new_line c ≡ true → is_marker (class_of c) ≡ false
unfolding class_of
new_line_unmarked c e = ap (λ n. is_marker (cond (eqb c 0x08) Erase (cond (eqb c 0x07) Bell (cond n NewLine (cond (is_silent c) Silent (cond (eqb c 0xFFFD) Marker Print)))))) e
    ∙ no_marker (eqb c 0x08) (eqb c 0x07) (is_silent c) (eqb c 0xFFFD)

cr_is_line : (c : ℕ) → eqb c 0x0D ≡ true → is_new_line c ≡ true
cr_is_line c e = let same : c ≡ 0x0D = grind (arith, nat_tests) in rw same refl

markers_signs : (cs : List ℕ) → marker_count (signs cs) ≡ marker_count cs
markers_signs [] = refl
markers_signs (c ∷ cs) = go (eqb c 0x0D) (begins_with_lf cs) (is_new_line c) refl refl (markers_signs cs)
  where
    line : is_new_line c ≡ true → marker_count (signs cs) ≡ marker_count cs → marker_count (0x0A ∷ signs cs) ≡ marker_count (c ∷ cs)
    line h e = markers_none 0x0A (signs cs) (new_line_unmarked 0x0A refl) ∙ (e ∙ sym (markers_none c cs (new_line_unmarked c h)))

    go : (r f n : Bool) → eqb c 0x0D ≡ r → is_new_line c ≡ n → marker_count (signs cs) ≡ marker_count cs → marker_count (cond (r && f) (signs cs) (cond n (0x0A ∷ signs cs) (c ∷ signs cs))) ≡ marker_count (c ∷ cs)
    go true true n p q e = e ∙ sym (markers_none c cs (new_line_unmarked c (cr_is_line c p)))
    go true false true p q e = line q e
    go true false false p q e = markers_more c (signs cs) cs e
    go false f true p q e = line q e
    go false f false p q e = markers_more c (signs cs) cs e

markers_survivors : (cs : List ℕ) → marker_count (survivors cs) ≡ marker_count cs
markers_survivors [] = refl
markers_survivors (c ∷ cs) = go (is_marker (class_of c)) (is_erasable (class_of c) && not (takes_back cs)) refl (markers_survivors cs)
  where
    go : (m b : Bool) → is_marker (class_of c) ≡ m → marker_count (survivors cs) ≡ marker_count cs → marker_count (cond (m || b) (c ∷ survivors cs) (survivors cs)) ≡ marker_count (c ∷ cs)
    go true b h e = markers_more c (survivors cs) cs e
    go false true h e = markers_more c (survivors cs) cs e
    go false false h e = e ∙ sym (markers_none c cs h)

-- all characters of the lines
concat_onto : (c : ℕ) (lines : List (List ℕ)) → concat (onto_first c lines) ≡ c ∷ concat lines
concat_onto c [] = refl
concat_onto c (line ∷ lines) = refl

lf_unmarked : (c : ℕ) → eqb c 0x0A ≡ true → is_marker (class_of c) ≡ false
lf_unmarked c e = let same : c ≡ 0x0A = grind (arith, nat_tests) in new_line_unmarked c (rw same refl)

markers_lines : (cs : List ℕ) → marker_count (concat (lines_of cs)) ≡ marker_count cs
markers_lines [] = refl
markers_lines (c ∷ cs) = go (eqb c 0x0A) refl (markers_lines cs)
  where
    go : (b : Bool) → eqb c 0x0A ≡ b → marker_count (concat (lines_of cs)) ≡ marker_count cs → marker_count (concat (cond b ([] ∷ lines_of cs) (onto_first c (lines_of cs)))) ≡ marker_count (c ∷ cs)
    go true h e = e ∙ sym (markers_none c cs (lf_unmarked c h))
    go false h e = ap marker_count (concat_onto c (lines_of cs)) ∙ markers_more c (concat (lines_of cs)) cs e

scalar_lines : (cs : List ℕ) → list_all scalar cs ≡ true → list_all scalar (concat (lines_of cs)) ≡ true
scalar_lines [] e = refl
scalar_lines (c ∷ cs) e =
    let a = and_parts _ _ e in
    go (eqb c 0x0A) a.0 (scalar_lines cs a.1)
  where
    go : (b : Bool) → scalar c ≡ true → list_all scalar (concat (lines_of cs)) ≡ true → list_all scalar (concat (cond b ([] ∷ lines_of cs) (onto_first c (lines_of cs)))) ≡ true
    go true one again = again
    go false one again = ap (list_all scalar) (concat_onto c (lines_of cs)) ∙ and_both (scalar c) _ one again

encoded_concat : (lines : List (List ℕ)) → concat (map encode_utf8_all lines) ≡ encode_utf8_all (concat lines)
encoded_concat [] = refl
encoded_concat (line ∷ lines) = ap (λ l. encode_utf8_all line ++ l) (encoded_concat lines) ∙ sym (encodes-append line (concat lines))

pub markers_seen : (text : List ℕ) → IsUtf8 text → marker_count (chars (concat (shown text).lines)) ≡ marker_count (chars text)
unfolding shown
markers_seen text u =
    let kept : List ℕ = survivors (signs (chars text)) in
    let scalars : list_all scalar (concat (lines_of kept)) ≡ true =
    scalar_lines kept (all_survivors scalar (signs (chars text)) (all_signs scalar lf_is_scalar (chars text) (sym (scalars_same (chars text)) ∙ scalars-chars text u))) in
    ap marker_count (ap chars (encoded_concat (lines_of kept)) ∙ chars-encodes (concat (lines_of kept)) (scalars_same (concat (lines_of kept)) ∙ scalars))
    ∙ (markers_lines kept ∙ (markers_survivors (signs (chars text)) ∙ markers_signs (chars text)))
