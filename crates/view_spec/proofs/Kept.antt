-- The lines have printing characters alone.
use Rattle.std.proofs.Common.{◌≡◌, ℕ, Bool, true, false, ◌||◌, ◌&&◌, not, cond, eqb, List, [], ◌∷◌, map, refl, sym, ap, ◌∙◌, All, IsUtf8, encode_utf8_all}
use Rattle.std.specs.List.{list_all, onto_first, AllByRecursion}
use Rattle.std.specs.Str.{chars, all_scalars}
use Rattle.std.proofs.Math.Utf8.{scalar}
use Rattle.std.proofs.lemmas.Bool.{and_parts}
use Rattle.std.proofs.lemmas.List.Elements.{All-nil, All-cons}
use Rattle.std.proofs.lemmas.Str.{chars-encodes, scalars-chars}
use Rattle.view_spec.specs.declared.classes.CharClass.{CharClass}
use Rattle.view_spec.specs.declared.classes.CharClass.TheVariants.{Erase, Bell, NewLine, Silent, Marker, Print}
use Rattle.view_spec.specs.Characters.{class_of, is_new_line, is_erasable, is_marker, is_print}
use Rattle.view_spec.specs.Shown.{begins_with_lf, signs, stays, survivors, takes_back, lines_of, shown}
use Rattle.view_spec.proofs.Steps.{new_line}

-- a printing character of Unicode
abbrev prints : ℕ → Bool
prints c = scalar c && is_print (class_of c)

pub and_both : (x y : Bool) → x ≡ true → y ≡ true → x && y ≡ true
and_both true y e f = f
and_both false y e f = absurd (cc)

all_both : (p q : ℕ → Bool) (cs : List ℕ) → list_all p cs ≡ true → list_all q cs ≡ true → list_all (λ c. p c && q c) cs ≡ true
all_both p q [] e f = refl
all_both p q (c ∷ cs) e f =
    let a = and_parts _ _ e in
    let b = and_parts _ _ f in
    and_both (p c && q c) (list_all (λ x. p x && q x) cs) (and_both (p c) (q c) a.0 b.0) (all_both p q cs a.1 b.1)

all_weaker : (p q : ℕ → Bool) → ((c : ℕ) → p c ≡ true → q c ≡ true) → (cs : List ℕ) → list_all p cs ≡ true → list_all q cs ≡ true
all_weaker p q h [] e = refl
all_weaker p q h (c ∷ cs) e = let a = and_parts _ _ e in and_both (q c) (list_all q cs) (h c a.0) (all_weaker p q h cs a.1)

-- what all characters have, the survivors have
pub all_survivors : (p : ℕ → Bool) (cs : List ℕ) → list_all p cs ≡ true → list_all p (survivors cs) ≡ true
all_survivors p [] e = refl
all_survivors p (c ∷ cs) e =
    let a = and_parts _ _ e in
    go (stays c cs) a.0 (all_survivors p cs a.1)
  where
    go : (b : Bool) → p c ≡ true → list_all p (survivors cs) ≡ true → list_all p (cond b (c ∷ survivors cs) (survivors cs)) ≡ true
    go true one again = and_both (p c) (list_all p (survivors cs)) one again
    go false one again = again

-- a marker, or what an erasure could take back
abbrev can_stay : CharClass → Bool
can_stay k = is_marker k || is_erasable k

staying_survivors : (cs : List ℕ) → list_all (λ c. can_stay (class_of c)) (survivors cs) ≡ true
staying_survivors [] = refl
staying_survivors (c ∷ cs) = go (is_marker (class_of c)) (is_erasable (class_of c)) (not (takes_back cs)) refl (staying_survivors cs)
  where
    go : (m b d : Bool) → can_stay (class_of c) ≡ m || b → list_all (λ x. can_stay (class_of x)) (survivors cs) ≡ true → list_all (λ x. can_stay (class_of x)) (cond (m || (b && d)) (c ∷ survivors cs) (survivors cs)) ≡ true
    go true b d e again = and_both (can_stay (class_of c)) _ e again
    go false true true e again = and_both (can_stay (class_of c)) _ e again
    go false true false e again = again
    go false false d e again = again

-- the signs have no new line but LF, and nothing but LF that the text has not
abbrev is_sign : ℕ → Bool
is_sign c = eqb c 0x0A || not (is_new_line c)

pub all_signs : (p : ℕ → Bool) → p 0x0A ≡ true → (cs : List ℕ) → list_all p cs ≡ true → list_all p (signs cs) ≡ true
all_signs p lf [] e = refl
all_signs p lf (c ∷ cs) e =
    let a = and_parts _ _ e in
    go (eqb c 0x0D && begins_with_lf cs) (is_new_line c) a.0 (all_signs p lf cs a.1)
  where
    go : (b n : Bool) → p c ≡ true → list_all p (signs cs) ≡ true → list_all p (cond b (signs cs) (cond n (0x0A ∷ signs cs) (c ∷ signs cs))) ≡ true
    go true n one again = again
    go false true one again = and_both (p 0x0A) _ lf again
    go false false one again = and_both (p c) _ one again

or_not : (x y : Bool) → y ≡ false → x || not y ≡ true
or_not true y e = refl
or_not false true e = absurd (cc)
or_not false false e = refl

signs_are_signs : (cs : List ℕ) → list_all is_sign (signs cs) ≡ true
signs_are_signs [] = refl
signs_are_signs (c ∷ cs) = go (eqb c 0x0D && begins_with_lf cs) (is_new_line c) refl (signs_are_signs cs)
  where
    go : (b n : Bool) → is_new_line c ≡ n → list_all is_sign (signs cs) ≡ true → list_all is_sign (cond b (signs cs) (cond n (0x0A ∷ signs cs) (c ∷ signs cs))) ≡ true
    go true n e again = again
    go false true e again = again
    go false false e again = and_both (is_sign c) _ (or_not (eqb c 0x0A) (is_new_line c) e) again

-- a survivor is an LF, or prints
abbrev stands : ℕ → Bool
stands c = eqb c 0x0A || prints c

staying_class : (k : CharClass) → can_stay k ≡ true → (k ≡ NewLine → ⊥) → is_print k ≡ true
staying_class Print e other = refl
staying_class Marker e other = refl
staying_class NewLine e other = absurd (other refl)
staying_class Erase e other = absurd (cc)
staying_class Bell e other = absurd (cc)
staying_class Silent e other = absurd (cc)

no_line : (x n : Bool) → x ≡ false → x || not n ≡ true → n ≡ true → ⊥
no_line false true e f g = absurd (let h : false ≡ true = f in cc)
no_line false false e f g = absurd (cc)
no_line true n e f g = absurd (cc)

standing : (c : ℕ) → scalar c && (can_stay (class_of c) && is_sign c) ≡ true → stands c ≡ true
standing c e =
    let a = and_parts _ _ e in
    let b = and_parts _ _ a.1 in
    go (eqb c 0x0A) refl a.0 b.0 b.1
  where
    go : (x : Bool) → eqb c 0x0A ≡ x → scalar c ≡ true → can_stay (class_of c) ≡ true → is_sign c ≡ true → x || prints c ≡ true
    go true f sc er si = refl
    go false f sc er si = and_both (scalar c) (is_print (class_of c)) sc (staying_class (class_of c) er (λ k. no_line (eqb c 0x0A) (is_new_line c) f si (new_line c k)))

pub lf_is_scalar : scalar 0x0A ≡ true
lf_is_scalar = refl

stand_all : (cs : List ℕ) → list_all scalar cs ≡ true → list_all stands (survivors (signs cs)) ≡ true
stand_all cs e = all_weaker _ stands standing (survivors (signs cs))
    (all_both scalar (λ c. can_stay (class_of c) && is_sign c) _ (all_survivors scalar (signs cs) (all_signs scalar lf_is_scalar cs e))
    (all_both (λ c. can_stay (class_of c)) is_sign _ (staying_survivors (signs cs)) (all_survivors is_sign (signs cs) (signs_are_signs cs))))

-- so a line prints
abbrev each_prints : List (List ℕ) → Type 0
each_prints lines = AllByRecursion (λ line. list_all prints line ≡ true) lines

onto_prints : (c : ℕ) (lines : List (List ℕ)) → prints c ≡ true → each_prints lines → each_prints (onto_first c lines)
onto_prints c [] e h = (and_both (prints c) true e refl, tt)
onto_prints c (line ∷ lines) e h = (and_both (prints c) (list_all prints line) e h.0, h.1)

lines_print : (cs : List ℕ) → list_all stands cs ≡ true → each_prints (lines_of cs)
lines_print [] e = (refl, tt)
lines_print (c ∷ cs) e =
    let a = and_parts _ _ e in
    go (eqb c 0x0A) a.0 (lines_print cs a.1)
  where
    go : (b : Bool) → b || prints c ≡ true → each_prints (lines_of cs) → each_prints (cond b ([] ∷ lines_of cs) (onto_first c (lines_of cs)))
    go true f again = (refl, again)
    go false f again = onto_prints c (lines_of cs) f again

-- a line in UTF-8 whose characters all print
abbrev pub PrintsOctets : List ℕ → Type 0
PrintsOctets line = IsUtf8 line × (list_all (λ c. is_print (class_of c)) (chars line) ≡ true)

pub scalars_same : (cs : List ℕ) → all_scalars cs ≡ list_all scalar cs
scalars_same [] = refl
scalars_same (c ∷ cs) = ap (λ b. scalar c && b) (scalars_same cs)

first_part : (c : ℕ) → prints c ≡ true → scalar c ≡ true
first_part c e = (and_parts _ _ e).0

second_part : (c : ℕ) → prints c ≡ true → is_print (class_of c) ≡ true
second_part c e = (and_parts _ _ e).1

one_line : (line : List ℕ) → list_all prints line ≡ true → PrintsOctets (encode_utf8_all line)
one_line line e =
    let sc : all_scalars line ≡ true = scalars_same line ∙ all_weaker prints scalar first_part line e in
    ((line, (sc, refl)), ap (list_all (λ c. is_print (class_of c))) (chars-encodes line sc) ∙ all_weaker prints (λ c. is_print (class_of c)) second_part line e)

all_lines : (lines : List (List ℕ)) → each_prints lines → All PrintsOctets (map encode_utf8_all lines)
all_lines [] h = All-nil PrintsOctets
all_lines (line ∷ lines) h = All-cons PrintsOctets (encode_utf8_all line) (map encode_utf8_all lines) (one_line line h.0) (all_lines lines h.1)

pub shown_prints : (text : List ℕ) → IsUtf8 text → All PrintsOctets (shown text).lines
unfolding shown
shown_prints text u = all_lines (lines_of (survivors (signs (chars text))))
    (lines_print (survivors (signs (chars text))) (stand_all (chars text) (sym (scalars_same (chars text)) ∙ scalars-chars text u)))
