-- Escapes are read back.
use Rattle.std.proofs.Common.{◌≡◌, ◌≢◌, ℕ, suc, ◌≤◌, ◌<◌, Bool, true, false, ◌&&◌, ◌||◌, cond, eqb, Option, Some, List, [], ◌∷◌, ◌++◌, length, get_or, refl, ap, sym, ◌∙◌, subst, arith, append-nil, inl, inr, encode_utf8, encode_utf8_all, IsUtf8}
use Rattle.std.specs.Prelude.{flat_map, codes, chars, not}
use Rattle.std.specs.List.{list_all, AllByRecursion}
use Rattle.std.proofs.lemmas.Bool.{and_parts, cases_lt, true≢false}
use Rattle.std.proofs.lemmas.Bool.Decides.{nat_tests}
use Rattle.std.proofs.lemmas.Str.{inside_one, encode_ascii, encodes-chars}
use Rattle.view_spec.specs.declared.classes.CharClass.{CharClass}
use Rattle.view_spec.specs.declared.classes.CharClass.TheVariants.{Erase, Bell, NewLine, Silent, Marker, Print}
use Rattle.view_spec.specs.Characters.{class_of, is_new_line}
use Rattle.view_spec.specs.Characters as tests
use Rattle.view_spec.specs.Shown.{begins_with_lf, signs}
use Rattle.view_spec.proofs.Separators.{line_separator}
use Rattle.file_spec.specs.Script.{unescaped, followed, escape}
use Rattle.command_spec.specs.Transcripts.{escaped, escaped_as, escaped_sign}
use Rattle.recording_views.specs.Laws.{is_silent_class, is_sayable}
use Rattle.recording_views.proofs.Escaping.{new_line_sign}

-- ---- octets of a character
all_at : (P : ℕ → Type 0) (xs : List ℕ) → ((k : ℕ) → k < length xs → P (get_or xs k 0)) → AllByRecursion P xs
all_at P [] h = tt
all_at P (x ∷ xs) h = (h 0 (omega arith), all_at P xs (λ k l. h (suc k) (omega arith)))

-- an octet is the character itself, or none of ASCII
pub each_octet : (P : ℕ → Type 0) (c : ℕ) → P c → ((o : ℕ) → 128 ≤ o → P o) → AllByRecursion P (encode_utf8 c)
each_octet P c own others = all_at P (encode_utf8 c) (λ k below. elim (cases_lt (get_or (encode_utf8 c) k 0) 128) [
  | inl small ↦ subst P (inside_one c [] (encode_utf8 c) k (sym (append-nil _)) below small) own
  | inr big ↦ others (get_or (encode_utf8 c) k 0) big
])

-- ---- one sign
-- an octet that begins no escape
plain_octet : (x : ℕ) (rest text : List ℕ) → x ≢ 92 → unescaped rest ≡ Some text → unescaped (x ∷ rest) ≡ Some (x ∷ text)
plain_octet x [] text n e =
    let other : eqb x 92 ≡ false = grind (arith, nat_tests) in
    let none : [] ≡ text = cc in
    rw other (ap (λ (t : List ℕ). Some (x ∷ t)) none)
plain_octet x (d ∷ rest) text n e =
    let other : eqb x 92 ≡ false = grind (arith, nat_tests) in
    rw other (ap (followed (Some (x ∷ []))) e)

plain_octets : (xs rest text : List ℕ) → AllByRecursion (λ o. o ≢ 92) xs → unescaped rest ≡ Some text → unescaped (xs ++ rest) ≡ Some (xs ++ text)
plain_octets [] rest text a e = e
plain_octets (x ∷ xs) rest text a e = plain_octet x (xs ++ rest) (xs ++ text) a.0 (plain_octets xs rest text a.1 e)

an_escape : (d : ℕ) (octets rest text : List ℕ) → escape d ≡ Some octets → unescaped rest ≡ Some text → unescaped (92 ∷ d ∷ rest) ≡ Some (octets ++ text)
an_escape d octets rest text o e = ap (λ (x : Option (List ℕ)). followed x (unescaped rest)) o ∙ ap (followed (Some octets)) e

-- what a class comes from
abbrev by_tests : Bool → Bool → Bool → Bool → Bool → CharClass
by_tests a b n s m = cond a Erase (cond b Bell (cond n NewLine (cond s Silent (cond m Marker Print))))

class_is : (c : ℕ) → class_of c ≡ by_tests (eqb c 0x08) (eqb c 0x07) (is_new_line c) (tests.is_silent c) (eqb c 0xFFFD)
unfolding class_of
class_is c = refl

separator : (c : ℕ) → is_new_line c ≡ true → eqb c 0x0A ≡ false → eqb c 0x0D ≡ false → eqb c 0x2029 ≡ false → c ≡ 0x2028
separator c n a b d = go (eqb c 0x0A) (eqb c 0x0D) (eqb c 0x2028) (eqb c 0x2029) refl n a b d
  where
    go : (x y z w : Bool) → eqb c 0x2028 ≡ z → x || y || z || w ≡ true → x ≡ false → y ≡ false → w ≡ false → c ≡ 0x2028
    go x y true w p e f g h = grind (arith, nat_tests)
    go true y false w p e f g h = absurd (cc)
    go false true false w p e f g h = absurd (cc)
    go false false false true p e f g h = absurd (cc)
    go false false false false p e f g h = absurd (cc)

not_backslash : (c : ℕ) → eqb c 92 ≡ false → AllByRecursion (λ o. o ≢ 92) (encode_utf8 c)
not_backslash c e = each_octet (λ o. o ≢ 92) c (λ s. let t : eqb c 92 ≡ true = grind (arith, nat_tests) in true≢false (sym t ∙ e)) (λ o big s. absurd (omega arith))

-- what is said of a character is read as its octets
sign_back : (c : ℕ) (rest text : List ℕ) → eqb c 0x0A ≡ false → eqb c 0x0D ≡ false → eqb c 0x2029 ≡ false → is_silent_class (class_of c) ≡ false → unescaped rest ≡ Some text → unescaped (escaped_sign c ++ rest) ≡ Some (encode_utf8 c ++ text)
sign_back c rest text lf cr paragraph silent e =
    ap (λ k. unescaped (escaped_as k c ++ rest)) (class_is c) ∙ go (eqb c 0x08) (eqb c 0x07) (is_new_line c) (tests.is_silent c) (eqb c 0xFFFD) refl refl refl refl (ap is_silent_class (sym (class_is c)) ∙ silent)
  where
    print : (b : Bool) → eqb c 92 ≡ b → unescaped (cond b (codes "\\\\") (encode_utf8 c) ++ rest) ≡ Some (encode_utf8 c ++ text)
    print true p =
        let same : c ≡ 92 = grind (arith, nat_tests) in
        an_escape 92 (92 ∷ []) rest text refl e ∙ ap (λ (o : List ℕ). Some (o ++ text)) (sym (ap encode_utf8 same ∙ encode_ascii 92 (omega arith)))
    print false p = plain_octets (encode_utf8 c) rest text (not_backslash c p) e

    go : (a b n s m : Bool) → eqb c 0x08 ≡ a → eqb c 0x07 ≡ b → is_new_line c ≡ n → eqb c 0xFFFD ≡ m → is_silent_class (by_tests a b n s m) ≡ false → unescaped (escaped_as (by_tests a b n s m) c ++ rest) ≡ Some (encode_utf8 c ++ text)
    go true b n s m p q r t f =
        let same : c ≡ 8 = grind (arith, nat_tests) in
        an_escape 98 (8 ∷ []) rest text refl e ∙ ap (λ (o : List ℕ). Some (o ++ text)) (sym (ap encode_utf8 same ∙ encode_ascii 8 (omega arith)))
    go false true n s m p q r t f =
        let same : c ≡ 7 = grind (arith, nat_tests) in
        an_escape 97 (7 ∷ []) rest text refl e ∙ ap (λ (o : List ℕ). Some (o ++ text)) (sym (ap encode_utf8 same ∙ encode_ascii 7 (omega arith)))
    go false false true s m p q r t f =
        an_escape 110 (226 ∷ 128 ∷ 168 ∷ []) rest text refl e ∙ ap (λ (o : List ℕ). Some (o ++ text)) (sym (ap encode_utf8 (separator c r lf cr paragraph) ∙ line_separator))
    go false false false true m p q r t f = absurd (cc)
    go false false false false true p q r t f =
        let other : eqb c 92 ≡ false = grind (arith, nat_tests) in
        plain_octets (encode_utf8 c) rest text (not_backslash c other) e
    go false false false false false p q r t f = print (eqb c 92) refl

-- ---- a text
pub record Parts (c : ℕ) : Type 0 where
  pub lf : eqb c 0x0A ≡ false
  pub cr : eqb c 0x0D ≡ false
  pub paragraph : eqb c 0x2029 ≡ false
  pub silent : is_silent_class (class_of c) ≡ false

pub parts_of : (c : ℕ) → is_sayable c ≡ true → Parts c
parts_of c e = go (eqb c 0x0A) (eqb c 0x0D) (eqb c 0x2029) (is_silent_class (class_of c)) refl refl refl refl e
  where
    go : (a b d s : Bool) → eqb c 0x0A ≡ a → eqb c 0x0D ≡ b → eqb c 0x2029 ≡ d → is_silent_class (class_of c) ≡ s → not (a || b || d || s) ≡ true → Parts c
    go true b d s p q t r f = absurd (cc)
    go false true d s p q t r f = absurd (cc)
    go false false true s p q t r f = absurd (cc)
    go false false false true p q t r f = absurd (cc)
    go false false false false p q t r f = record { lf = p; cr = q; paragraph = t; silent = r }

-- without CR, what stands for the signs stands for the characters
pub said_as_characters : (cs : List ℕ) → list_all is_sayable cs ≡ true → flat_map escaped_sign (signs cs) ≡ flat_map escaped_sign cs
said_as_characters [] a = refl
said_as_characters (c ∷ cs) a =
    let b = and_parts (is_sayable c) (list_all is_sayable cs) a in
    let p = parts_of c b.0 in
    ap (λ r. flat_map escaped_sign (cond (r && begins_with_lf cs) (signs cs) (cond (is_new_line c) (0x0A ∷ signs cs) (c ∷ signs cs)))) p.cr ∙ go (is_new_line c) refl (said_as_characters cs b.1)
  where
    go : (n : Bool) → is_new_line c ≡ n → flat_map escaped_sign (signs cs) ≡ flat_map escaped_sign cs → flat_map escaped_sign (cond n (0x0A ∷ signs cs) (c ∷ signs cs)) ≡ escaped_sign c ++ flat_map escaped_sign cs
    go true e more = ap (λ o. o ++ flat_map escaped_sign (signs cs)) (new_line_sign c e) ∙ ap (λ o. escaped_sign c ++ o) more
    go false e more = ap (λ o. escaped_sign c ++ o) more

characters_back : (cs : List ℕ) → list_all is_sayable cs ≡ true → unescaped (flat_map escaped_sign cs) ≡ Some (encode_utf8_all cs)
characters_back [] a = refl
characters_back (c ∷ cs) a =
    let b = and_parts (is_sayable c) (list_all is_sayable cs) a in
    let p = parts_of c b.0 in
    sign_back c (flat_map escaped_sign cs) (encode_utf8_all cs) p.lf p.cr p.paragraph p.silent (characters_back cs b.1)

pub text_back : (text : List ℕ) → IsUtf8 text → list_all is_sayable (chars text) ≡ true → unescaped (escaped text) ≡ Some text
unfolding escaped
text_back text u a =
    ap unescaped (said_as_characters (chars text) a) ∙ (characters_back (chars text) a ∙ ap (λ (t : List ℕ). Some t) (encodes-chars text u))

-- ---- the octets of what is said
-- no octet ends a line
abbrev pub IsInside : ℕ → Type 0
IsInside o = (eqb o 10 ≡ false) × (eqb o 13 ≡ false)

big_inside : (o : ℕ) → 128 ≤ o → IsInside o
big_inside o big = (grind (arith, nat_tests), grind (arith, nat_tests))

pub all_append : (P : ℕ → Type 0) (xs ys : List ℕ) → AllByRecursion P xs → AllByRecursion P ys → AllByRecursion P (xs ++ ys)
all_append P [] ys a b = b
all_append P (x ∷ xs) ys a b = (a.0, all_append P xs ys a.1 b)

sign_inside : (c : ℕ) → Parts c → AllByRecursion IsInside (escaped_sign c)
sign_inside c p = go (class_of c)
  where
    print : (b : Bool) → AllByRecursion IsInside (cond b (codes "\\\\") (encode_utf8 c))
    print true = ((refl, refl), ((refl, refl), tt))
    print false = each_octet IsInside c (p.lf, p.cr) big_inside

    go : (k : CharClass) → AllByRecursion IsInside (escaped_as k c)
    go Erase = ((refl, refl), ((refl, refl), tt))
    go Bell = ((refl, refl), ((refl, refl), tt))
    go NewLine = ((refl, refl), ((refl, refl), tt))
    go Silent = tt
    go Marker = print false
    go Print = print (eqb c 92)

characters_inside : (cs : List ℕ) → list_all is_sayable cs ≡ true → AllByRecursion IsInside (flat_map escaped_sign cs)
characters_inside [] a = tt
characters_inside (c ∷ cs) a =
    let b = and_parts (is_sayable c) (list_all is_sayable cs) a in
    all_append IsInside (escaped_sign c) (flat_map escaped_sign cs) (sign_inside c (parts_of c b.0)) (characters_inside cs b.1)

pub text_inside : (text : List ℕ) → list_all is_sayable (chars text) ≡ true → AllByRecursion IsInside (escaped text)
unfolding escaped
text_inside text a = subst (AllByRecursion IsInside) (sym (said_as_characters (chars text) a)) (characters_inside (chars text) a)
