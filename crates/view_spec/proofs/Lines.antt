-- The lines of what is shown: plain texts, and how long they are.
use Rattle.std.proofs.Common.{◌≡◌, ℕ, ◌+◌, ◌<◌, ◌≤◌, Bool, true, false, ◌||◌, ◌&&◌, cond, eqb, List, [], ◌∷◌, ◌++◌, map, length, ◌⊎◌, inl, inr, refl, sym, ap, ap₂, subst, ◌∙◌, arith, length-append, encode_utf8_all, IsUtf8}
use Rattle.std.specs.List.{list_all, concat, onto_first}
use Rattle.std.proofs.lemmas.List.{length-map}
use Rattle.std.proofs.lemmas.Bool.{and_parts}
use Rattle.std.proofs.lemmas.Str.{encodes-chars, length-encode, len_utf8_bounds}
use Rattle.std.specs.Char.{encode_utf8}
use Rattle.std.specs.Str.{chars}
use Rattle.view_spec.specs.declared.classes.CharClass.{CharClass}
use Rattle.view_spec.specs.declared.classes.CharClass.TheVariants.{Erase, Bell, NewLine, Silent, Marker, Print}
use Rattle.view_spec.specs.Characters.{class_of, is_new_line, is_bell, is_print, is_silent}
use Rattle.view_spec.specs.Shown.{begins_with_lf, signs, stays, survivors, lines_of, shown, bells, Display}
use Rattle.view_spec.proofs.Signs.{not_lf}
use Rattle.view_spec.proofs.Erasing.{Markers, Stands, reach, reach_markers, reach_stands, survivors_marked, survivors_with}

-- how many octets lie on the lines
abbrev pub octets : List (List ℕ) → ℕ
octets [] = 0
octets (line ∷ lines) = length (encode_utf8_all line) + octets lines

octets_in_first : (c : ℕ) (lines : List (List ℕ)) → octets (onto_first c lines) ≡ length (encode_utf8 c) + octets lines
octets_in_first c [] = omega (arith, length-append (encode_utf8 c) [])
octets_in_first c (line ∷ lines) = omega (arith, length-append (encode_utf8 c) (encode_utf8_all line))

octets_lines : (cs : List ℕ) → octets (lines_of cs) ≤ length (encode_utf8_all cs)
octets_lines [] = omega arith
octets_lines (c ∷ cs) =
    let longer = length-append (encode_utf8 c) (encode_utf8_all cs) in
    go (eqb c 0x0A) longer (octets_lines cs)
  where
    go : (b : Bool) → length (encode_utf8 c ++ encode_utf8_all cs) ≡ length (encode_utf8 c) + length (encode_utf8_all cs) → octets (lines_of cs) ≤ length (encode_utf8_all cs) → octets (cond b ([] ∷ lines_of cs) (onto_first c (lines_of cs))) ≤ length (encode_utf8 c ++ encode_utf8_all cs)
    go true longer again = omega arith
    go false longer again = omega (arith, octets_in_first c (lines_of cs))

octets_survivors : (cs : List ℕ) → length (encode_utf8_all (survivors cs)) ≤ length (encode_utf8_all cs)
octets_survivors [] = omega arith
octets_survivors (c ∷ cs) = go (stays c cs) (octets_survivors cs)
  where
    go : (b : Bool) → length (encode_utf8_all (survivors cs)) ≤ length (encode_utf8_all cs) → length (encode_utf8_all (cond b (c ∷ survivors cs) (survivors cs))) ≤ length (encode_utf8 c ++ encode_utf8_all cs)
    go true again = omega (arith, length-append (encode_utf8 c) (encode_utf8_all (survivors cs)), length-append (encode_utf8 c) (encode_utf8_all cs))
    go false again = omega (arith, length-append (encode_utf8 c) (encode_utf8_all cs))

lf_is_short : length (encode_utf8 0x0A) ≡ 1
lf_is_short = length-encode 0x0A

octets_signs : (cs : List ℕ) → length (encode_utf8_all (signs cs)) ≤ length (encode_utf8_all cs)
octets_signs [] = omega arith
octets_signs (c ∷ cs) = go (eqb c 0x0D && begins_with_lf cs) (is_new_line c) (octets_signs cs)
  where
    go : (b n : Bool) → length (encode_utf8_all (signs cs)) ≤ length (encode_utf8_all cs) → length (encode_utf8_all (cond b (signs cs) (cond n (0x0A ∷ signs cs) (c ∷ signs cs)))) ≤ length (encode_utf8 c ++ encode_utf8_all cs)
    go true n again = omega (arith, length-append (encode_utf8 c) (encode_utf8_all cs))
    go false true again = omega (arith, length-append (encode_utf8 0x0A) (encode_utf8_all (signs cs)), length-append (encode_utf8 c) (encode_utf8_all cs), lf_is_short, length-encode c, (len_utf8_bounds c).0)
    go false false again = omega (arith, length-append (encode_utf8 c) (encode_utf8_all (signs cs)), length-append (encode_utf8 c) (encode_utf8_all cs))

octets_concat : (lines : List (List ℕ)) → length (concat (map encode_utf8_all lines)) ≡ octets lines
octets_concat [] = refl
octets_concat (line ∷ lines) = omega (arith, length-append (encode_utf8_all line) (concat (map encode_utf8_all lines)), octets_concat lines)

pub never_longer : (text : List ℕ) → IsUtf8 text → length (concat (shown text).lines) ≤ length text
unfolding shown
never_longer text u =
    let cs : List ℕ = chars text in
    omega (arith, octets_concat (lines_of (survivors (signs cs))), octets_lines (survivors (signs cs)), octets_survivors (signs cs), octets_signs cs, ap length (encodes-chars text u))

-- a character that is shown as it is stands or is a marker, and is no new line
pub record Plain (c : ℕ) : Type 0 where
  pub stands : Stands (class_of c) ⊎ Markers (class_of c)
  pub line : is_new_line c ≡ false
  pub bell : is_bell (class_of c) ≡ false

no_new_line : (a b n s m : Bool) → is_print (cond a Erase (cond b Bell (cond n NewLine (cond s Silent (cond m Marker Print))))) ≡ true → n ≡ false
no_new_line a b false s m e = refl
no_new_line true b true s m e = absurd (cc)
no_new_line false true true s m e = absurd (cc)
no_new_line false false true s m e = absurd (cc)

stands_print : (k : CharClass) → is_print k ≡ true → Stands k ⊎ Markers k
stands_print Print e = inl (record { unmarked = refl; stays = refl; stands = refl })
stands_print Marker e = inr (record { markers = refl; stays = refl; passes = refl })
stands_print Erase e = absurd (cc)
stands_print Bell e = absurd (cc)
stands_print NewLine e = absurd (cc)
stands_print Silent e = absurd (cc)

silent_print : (k : CharClass) → is_print k ≡ true → is_bell k ≡ false
silent_print Print e = refl
silent_print Marker e = refl
silent_print Erase e = absurd (cc)
silent_print Bell e = absurd (cc)
silent_print NewLine e = absurd (cc)
silent_print Silent e = absurd (cc)

new_line_print : (c : ℕ) → is_print (class_of c) ≡ true → is_new_line c ≡ false
unfolding class_of
new_line_print c e = no_new_line (eqb c 0x08) (eqb c 0x07) (is_new_line c) (is_silent c) (eqb c 0xFFFD) e

plain : (c : ℕ) → is_print (class_of c) ≡ true → Plain c
plain c e = record {
  stands = stands_print (class_of c) e;
  line = new_line_print c e;
  bell = silent_print (class_of c) e;
}

pub not_cr : (c : ℕ) → is_new_line c ≡ false → eqb c 0x0D ≡ false
not_cr c e = no_second (eqb c 0x0A) (eqb c 0x0D) (eqb c 0x2028) (eqb c 0x2029) e
  where
    no_second : (x y z w : Bool) → x || y || z || w ≡ false → y ≡ false
    no_second x false z w f = refl
    no_second true true z w f = absurd (cc)
    no_second false true z w f = absurd (cc)

abbrev pub are_print : List ℕ → Bool
are_print cs = list_all (λ c. is_print (class_of c)) cs

pub plain_signs : (cs : List ℕ) → are_print cs ≡ true → signs cs ≡ cs
plain_signs [] e = refl
plain_signs (c ∷ cs) e =
    let p = and_parts _ _ e in
    let q = plain c p.0 in
    rw (plain_signs cs p.1) (kept (eqb c 0x0D && begins_with_lf cs) (is_new_line c) (no_pair (eqb c 0x0D) (begins_with_lf cs) (not_cr c q.line)) q.line)
  where
    no_pair : (x y : Bool) → x ≡ false → x && y ≡ false
    no_pair false y f = refl
    no_pair true y f = absurd (cc)

    kept : (b n : Bool) → b ≡ false → n ≡ false → cond b cs (cond n (0x0A ∷ cs) (c ∷ cs)) ≡ c ∷ cs
    kept false false f g = refl
    kept true n f g = absurd (cc)
    kept false true f g = absurd (cc)

pub plain_reach : (cs : List ℕ) → are_print cs ≡ true → reach cs ≡ 0
plain_reach [] e = refl
plain_reach (c ∷ cs) e =
    let p = and_parts _ _ e in
    elim (stands_print (class_of c) p.0) [
      | inl h ↦ reach_stands c cs h ∙ omega (arith, plain_reach cs p.1)
      | inr h ↦ reach_markers c cs h
    ]

pub plain_survivors : (cs : List ℕ) → are_print cs ≡ true → survivors cs ≡ cs
plain_survivors [] e = refl
plain_survivors (c ∷ cs) e =
    let p = and_parts _ _ e in
    let first : survivors (c ∷ cs) ≡ c ∷ survivors cs = elim (stands_print (class_of c) p.0) [
      | inl h ↦ survivors_with c cs h (plain_reach cs p.1)
      | inr h ↦ survivors_marked c cs h.markers
    ] in
    first ∙ ap (λ l. c ∷ l) (plain_survivors cs p.1)

plain_lines : (cs : List ℕ) → are_print cs ≡ true → lines_of cs ≡ cs ∷ []
plain_lines [] e = refl
plain_lines (c ∷ cs) e =
    let p = and_parts _ _ e in
    let q = plain c p.0 in
    rw (not_lf c q.line, plain_lines cs p.1) refl

plain_bells : (cs : List ℕ) → are_print cs ≡ true → bells cs ≡ 0
plain_bells [] e = refl
plain_bells (c ∷ cs) e =
    let p = and_parts _ _ e in
    let q = plain c p.0 in
    rw q.bell (plain_bells cs p.1)

pub shown_plain : (text : List ℕ) → IsUtf8 text → are_print (chars text) ≡ true → shown text ≡ record { lines = text ∷ []; bells = 0 }
unfolding shown
shown_plain text u e =
    let whole : lines_of (survivors (signs (chars text))) ≡ chars text ∷ [] = ap (λ l. lines_of (survivors l)) (plain_signs _ e) ∙ (ap lines_of (plain_survivors _ e) ∙ plain_lines _ e) in
    let lines : map encode_utf8_all (lines_of (survivors (signs (chars text)))) ≡ text ∷ [] = ap (map encode_utf8_all) whole ∙ ap (λ l. l ∷ []) (encodes-chars text u) in
    ap₂ (λ (l : List (List ℕ)) (n : ℕ). let d : Display = record { lines = l; bells = n } in d) lines (plain_bells (chars text) e)

pub shown_nothing : shown [] ≡ record { lines = [] ∷ []; bells = 0 }
unfolding shown chars
shown_nothing = refl

-- there is a line
some_in_first : (c : ℕ) (lines : List (List ℕ)) → 0 < length (onto_first c lines)
some_in_first c [] = omega arith
some_in_first c (line ∷ lines) = omega arith

pub some_line : (cs : List ℕ) → 0 < length (lines_of cs)
some_line [] = omega arith
some_line (c ∷ cs) = go (eqb c 0x0A)
  where
    go : (b : Bool) → 0 < length (cond b ([] ∷ lines_of cs) (onto_first c (lines_of cs)))
    go true = omega arith
    go false = some_in_first c (lines_of cs)

pub shown_some : (text : List ℕ) → 0 < length (shown text).lines
unfolding shown
shown_some text = subst (λ n. 0 < n) (sym (length-map (lines_of (survivors (signs (chars text)))) encode_utf8_all)) (some_line (survivors (signs (chars text))))
