-- One more character: what it does to what stands, by its class.
use Rattle.std.proofs.Common.{◌≡◌, ℕ, ◌+◌, ◌<◌, Bool, true, false, ◌&&◌, cond, eqb, ltb, leb, List, [], ◌∷◌, ◌++◌, length, ◌⊎◌, inl, inr, refl, ap, ◌∙◌, arith, length-append, ◌≤◌, filter}
use Rattle.std.proofs.lemmas.List.Elements.{filter-append}
use Rattle.std.proofs.lemmas.Bool.{and_right}
use Rattle.std.proofs.lemmas.Bool.Decides.{nat_tests}
use Rattle.view_spec.specs.declared.classes.CharClass.{CharClass}
use Rattle.view_spec.specs.declared.classes.CharClass.TheVariants.{Erase, Bell, NewLine, Silent, Marker, Print}
use Rattle.view_spec.specs.Characters.{class_of, is_new_line, is_bell}
use Rattle.view_spec.specs.Shown.{signs, ends_with_cr, survivors, one_back, bells}
use Rattle.view_spec.proofs.Erasing.{erased, appended, marked, passed}
use Rattle.view_spec.proofs.Signs.{not_lf, signs-append, signs-cr_lf}

-- a class by the tests, in their order
abbrev by_tests : Bool → Bool → Bool → Bool → Bool → CharClass
by_tests a b n s m = cond a Erase (cond b Bell (cond n NewLine (cond s Silent (cond m Marker Print))))

tests_erase : (a b n s m : Bool) → by_tests a b n s m ≡ Erase → a ≡ true
tests_erase true b n s m e = refl
tests_erase false true n s m e = absurd (cc)
tests_erase false false true s m e = absurd (cc)
tests_erase false false false true m e = absurd (cc)
tests_erase false false false false true e = absurd (cc)
tests_erase false false false false false e = absurd (cc)

tests_bell : (a b n s m : Bool) → by_tests a b n s m ≡ Bell → b ≡ true
tests_bell true b n s m e = absurd (cc)
tests_bell false true n s m e = refl
tests_bell false false true s m e = absurd (cc)
tests_bell false false false true m e = absurd (cc)
tests_bell false false false false true e = absurd (cc)
tests_bell false false false false false e = absurd (cc)

tests_new_line : (a b n s m : Bool) → by_tests a b n s m ≡ NewLine → n ≡ true
tests_new_line true b n s m e = absurd (cc)
tests_new_line false true n s m e = absurd (cc)
tests_new_line false false true s m e = refl
tests_new_line false false false true m e = absurd (cc)
tests_new_line false false false false true e = absurd (cc)
tests_new_line false false false false false e = absurd (cc)

tests_silent : (a b n s m : Bool) → by_tests a b n s m ≡ Silent → n ≡ false
tests_silent true b n s m e = absurd (cc)
tests_silent false true n s m e = absurd (cc)
tests_silent false false true s m e = absurd (cc)
tests_silent false false false true m e = refl
tests_silent false false false false true e = absurd (cc)
tests_silent false false false false false e = absurd (cc)

tests_marker : (a b n s m : Bool) → by_tests a b n s m ≡ Marker → m ≡ true
tests_marker true b n s m e = absurd (cc)
tests_marker false true n s m e = absurd (cc)
tests_marker false false true s m e = absurd (cc)
tests_marker false false false true m e = absurd (cc)
tests_marker false false false false true e = refl
tests_marker false false false false false e = absurd (cc)

tests_print : (a b n s m : Bool) → by_tests a b n s m ≡ Print → n ≡ false
tests_print true b n s m e = absurd (cc)
tests_print false true n s m e = absurd (cc)
tests_print false false true s m e = absurd (cc)
tests_print false false false true m e = absurd (cc)
tests_print false false false false true e = absurd (cc)
tests_print false false false false false e = refl

same_code : (c d : ℕ) → eqb c d ≡ true → c ≡ d
same_code c d e = grind (arith, nat_tests)

-- only U+0008 erases
pub erase_code : (c : ℕ) → class_of c ≡ Erase → c ≡ 0x08
unfolding class_of
erase_code c e = same_code c 0x08 (tests_erase _ _ _ _ _ e)

-- whether a character is a new line, by its class
pub erase_line : (c : ℕ) → class_of c ≡ Erase → is_new_line c ≡ false
unfolding class_of
erase_line c e = let same : c ≡ 0x08 = same_code c 0x08 (tests_erase _ _ _ _ _ e) in rw same refl

bell_line : (c : ℕ) → class_of c ≡ Bell → is_new_line c ≡ false
unfolding class_of
bell_line c e = let same : c ≡ 0x07 = same_code c 0x07 (tests_bell _ _ _ _ _ e) in rw same refl

pub new_line : (c : ℕ) → class_of c ≡ NewLine → is_new_line c ≡ true
unfolding class_of
new_line c e = tests_new_line _ _ _ _ _ e

silent_line : (c : ℕ) → class_of c ≡ Silent → is_new_line c ≡ false
unfolding class_of
silent_line c e = tests_silent _ _ _ _ _ e

marker_line : (c : ℕ) → class_of c ≡ Marker → is_new_line c ≡ false
unfolding class_of
marker_line c e = let same : c ≡ 0xFFFD = same_code c 0xFFFD (tests_marker _ _ _ _ _ e) in rw same refl

pub print_line : (c : ℕ) → class_of c ≡ Print → is_new_line c ≡ false
unfolding class_of
print_line c e = tests_print _ _ _ _ _ e

pub lf_class : class_of 0x0A ≡ NewLine
unfolding class_of
lf_class = refl

-- the signs of one character, and of a text with it at the end
sign_of : (first : Bool) (n : Bool) (c : ℕ) → cond (first && false) [] (cond n (0x0A ∷ []) (c ∷ [])) ≡ cond n (0x0A ∷ []) (c ∷ [])
sign_of true n c = refl
sign_of false n c = refl

pub signs_letter : (cs : List ℕ) (c : ℕ) → is_new_line c ≡ false → signs (cs ++ c ∷ []) ≡ signs cs ++ c ∷ []
signs_letter cs c e =
    signs-append cs (c ∷ []) (and_right (ends_with_cr cs) (eqb c 0x0A) (not_lf c e))
    ∙ ap (λ l. signs cs ++ l) (sign_of (eqb c 0x0D) (is_new_line c) c ∙ ap (λ b. cond b (0x0A ∷ []) (c ∷ [])) e)

pub signs_new_line : (cs : List ℕ) (c : ℕ) → is_new_line c ≡ true → eqb c 0x0A && ends_with_cr cs ≡ false → signs (cs ++ c ∷ []) ≡ signs cs ++ 0x0A ∷ []
signs_new_line cs c e f =
    signs-append cs (c ∷ []) (turned (eqb c 0x0A) (ends_with_cr cs) f)
    ∙ ap (λ l. signs cs ++ l) (sign_of (eqb c 0x0D) (is_new_line c) c ∙ ap (λ b. cond b (0x0A ∷ []) (c ∷ [])) e)
  where
    turned : (x y : Bool) → x && y ≡ false → y && x ≡ false
    turned true true g = g
    turned true false g = refl
    turned false true g = refl
    turned false false g = refl

-- what stands after one more character
pub stands-erase : (cs : List ℕ) (c : ℕ) → class_of c ≡ Erase → survivors (signs (cs ++ c ∷ [])) ≡ one_back (survivors (signs cs))
stands-erase cs c e = ap survivors (signs_letter cs c (erase_line c e)) ∙ erased (signs cs) c e

pub stands-bell : (cs : List ℕ) (c : ℕ) → class_of c ≡ Bell → survivors (signs (cs ++ c ∷ [])) ≡ survivors (signs cs)
stands-bell cs c e = ap survivors (signs_letter cs c (bell_line c e)) ∙ passed (signs cs) c (rw e refl) (rw e refl) (rw e refl)

pub stands-silent : (cs : List ℕ) (c : ℕ) → class_of c ≡ Silent → survivors (signs (cs ++ c ∷ [])) ≡ survivors (signs cs)
stands-silent cs c e = ap survivors (signs_letter cs c (silent_line c e)) ∙ passed (signs cs) c (rw e refl) (rw e refl) (rw e refl)

pub stands-marker : (cs : List ℕ) (c : ℕ) → class_of c ≡ Marker → survivors (signs (cs ++ c ∷ [])) ≡ survivors (signs cs) ++ c ∷ []
stands-marker cs c e = ap survivors (signs_letter cs c (marker_line c e)) ∙ marked (signs cs) c e

pub stands-print : (cs : List ℕ) (c : ℕ) → class_of c ≡ Print → survivors (signs (cs ++ c ∷ [])) ≡ survivors (signs cs) ++ c ∷ []
stands-print cs c e = ap survivors (signs_letter cs c (print_line c e)) ∙ appended (signs cs) c (rw e refl)

-- what is shown as it is
pub stands-shown : (cs : List ℕ) (c : ℕ) → (class_of c ≡ Marker) ⊎ (class_of c ≡ Print) → survivors (signs (cs ++ c ∷ [])) ≡ survivors (signs cs) ++ c ∷ []
stands-shown cs c (inl e) = stands-marker cs c e
stands-shown cs c (inr e) = stands-print cs c e

pub bells_shown : (k : CharClass) → (k ≡ Marker) ⊎ (k ≡ Print) → is_bell k ≡ false
bells_shown k (inl e) = rw e refl
bells_shown k (inr e) = rw e refl

pub stands-new_line : (cs : List ℕ) (c : ℕ) → class_of c ≡ NewLine → eqb c 0x0A && ends_with_cr cs ≡ false → survivors (signs (cs ++ c ∷ [])) ≡ survivors (signs cs) ++ 0x0A ∷ []
stands-new_line cs c e f = ap survivors (signs_new_line cs c (new_line c e) f) ∙ appended (signs cs) 0x0A (rw lf_class refl)

pub stands-cr_lf : (cs : List ℕ) → ends_with_cr cs ≡ true → survivors (signs (cs ++ 0x0A ∷ [])) ≡ survivors (signs cs)
stands-cr_lf cs e = ap survivors (signs-cr_lf cs e)

-- the bells after one more character, and whether CR is the last
pub bells-append : (xs ys : List ℕ) → bells (xs ++ ys) ≡ bells xs + bells ys
bells-append xs ys = ap length (filter-append (λ c. is_bell (class_of c)) xs ys) ∙ length-append _ _

pub bells_more : (cs : List ℕ) (c : ℕ) → class_of c ≡ Bell → bells (cs ++ c ∷ []) ≡ bells cs + 1
bells_more cs c e = bells-append cs (c ∷ []) ∙ rw e refl

pub bells_same : (cs : List ℕ) (c : ℕ) → is_bell (class_of c) ≡ false → bells (cs ++ c ∷ []) ≡ bells cs
bells_same cs c e = bells-append cs (c ∷ []) ∙ rw e (omega arith)

pub ends_with_cr-last : (cs : List ℕ) (c : ℕ) → ends_with_cr (cs ++ c ∷ []) ≡ eqb c 0x0D
ends_with_cr-last [] c = refl
ends_with_cr-last (b ∷ []) c = refl
ends_with_cr-last (b ∷ d ∷ cs) c = ends_with_cr-last (d ∷ cs) c

pub bells_le : (cs : List ℕ) → bells cs ≤ length cs
bells_le [] = omega arith
bells_le (c ∷ cs) = go (is_bell (class_of c)) (bells_le cs)
  where
    go : (b : Bool) → bells cs ≤ length cs → length (cond b (c ∷ filter (λ x. is_bell (class_of x)) cs) (filter (λ x. is_bell (class_of x)) cs)) ≤ length (c ∷ cs)
    go true h = omega arith
    go false h = omega arith

-- printable characters of ASCII print
pub plain_class : (c : ℕ) → 0x20 ≤ c → c < 0x7F → class_of c ≡ Print
unfolding class_of
plain_class c lo hi =
    let a : eqb c 0x08 ≡ false = grind (arith, nat_tests) in
    let b : eqb c 0x07 ≡ false = grind (arith, nat_tests) in
    let d : eqb c 0x0A ≡ false = grind (arith, nat_tests) in
    let e : eqb c 0x0D ≡ false = grind (arith, nat_tests) in
    let f : eqb c 0x2028 ≡ false = grind (arith, nat_tests) in
    let j : eqb c 0x2029 ≡ false = grind (arith, nat_tests) in
    let m : eqb c 0xFFFD ≡ false = grind (arith, nat_tests) in
    let g : ltb c 0x20 ≡ false = grind (arith, nat_tests) in
    let h : leb 0x7F c ≡ false = grind (arith, nat_tests) in
    let i : eqb c 0xFEFF ≡ false = grind (arith, nat_tests) in
    rw (a, b, d, e, f, j, g, h, i, m) refl
