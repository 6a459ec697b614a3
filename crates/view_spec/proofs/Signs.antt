-- One more character: its sign, where it isn't the LF of a CR LF.
use Rattle.std.proofs.Common.{◌≡◌, ℕ, Bool, true, false, ◌&&◌, ◌||◌, cond, eqb, List, [], ◌∷◌, ◌++◌, refl, ap, ◌∙◌, arith}
use Rattle.std.proofs.lemmas.Bool.Decides.{nat_tests}
use Rattle.view_spec.specs.Characters.{is_new_line}
use Rattle.view_spec.specs.Shown.{begins_with_lf, signs, ends_with_cr}

pub not_lf : (c : ℕ) → is_new_line c ≡ false → eqb c 0x0A ≡ false
not_lf c e = no_first (eqb c 0x0A) (eqb c 0x0D) (eqb c 0x2028) (eqb c 0x2029) e
  where
    no_first : (x y z w : Bool) → x || y || z || w ≡ false → x ≡ false
    no_first false y z w f = refl
    no_first true y z w f = absurd (cc)

-- what one character adds before the given signs
abbrev sign_before : Bool → ℕ → List ℕ → List ℕ
sign_before dropped c rest = cond dropped rest (cond (is_new_line c) (0x0A ∷ rest) (c ∷ rest))

sign_before-append : (dropped : Bool) (c : ℕ) (xs ys : List ℕ) → sign_before dropped c (xs ++ ys) ≡ sign_before dropped c xs ++ ys
sign_before-append true c xs ys = refl
sign_before-append false c xs ys = go (is_new_line c)
  where
    go : (b : Bool) → cond b (0x0A ∷ (xs ++ ys)) (c ∷ (xs ++ ys)) ≡ cond b (0x0A ∷ xs) (c ∷ xs) ++ ys
    go true = refl
    go false = refl

-- A text's signs are those of its parts, unless a CR LF stands across the cut.
pub signs-append : (xs ys : List ℕ) → ends_with_cr xs && begins_with_lf ys ≡ false → signs (xs ++ ys) ≡ signs xs ++ signs ys
signs-append [] ys e = refl
signs-append (c ∷ []) ys e = rw e (sign_before-append false c [] (signs ys) ∙ last (eqb c 0x0D))
  where
    last : (b : Bool) → sign_before false c [] ++ signs ys ≡ sign_before (b && false) c [] ++ signs ys
    last true = refl
    last false = refl
signs-append (c ∷ d ∷ xs) ys e =
    ap (λ l. sign_before (eqb c 0x0D && eqb d 0x0A) c l) (signs-append (d ∷ xs) ys e)
    ∙ sign_before-append (eqb c 0x0D && eqb d 0x0A) c (signs (d ∷ xs)) (signs ys)

is_cr : (c : ℕ) → eqb c 0x0D ≡ true → c ≡ 0x0D
is_cr c e = grind (arith, nat_tests)

-- An LF after a CR adds nothing.
pub signs-cr_lf : (xs : List ℕ) → ends_with_cr xs ≡ true → signs (xs ++ 0x0A ∷ []) ≡ signs xs
signs-cr_lf [] e = absurd (cc)
signs-cr_lf (c ∷ []) e = let same : c ≡ 0x0D = is_cr c e in rw same refl
signs-cr_lf (c ∷ d ∷ xs) e = ap (λ l. sign_before (eqb c 0x0D && eqb d 0x0A) c l) (signs-cr_lf (d ∷ xs) e)
