-- Plain characters stand where they are.
use Rattle.std.proofs.Common.{◌≡◌, ℕ, ◌+◌, ◌^◌, ◌<◌, ◌≤◌, false, eqb, ltb, leb, List, [], ◌∷◌, ◌++◌, length, take, drop, All, refl, sym, ap, ◌∙◌, arith, append_assoc, append-nil, chars, encode_utf8_all, IsUtf8}
use Rattle.std.proofs.lemmas.Bool.Decides.{nat_tests}
use Rattle.std.proofs.lemmas.Str.{encodes-append, encodes-IsAscii, encodes-chars, chars-append, chars-IsAscii, length-le-encodes, IsUtf8-from_ascii}
use Rattle.std.proofs.lemmas.Str.Ascii.{IsAscii-from_all}
use Rattle.std.proofs.lemmas.List.{take-append-drop, length-take-le, length-append}
use Rattle.std.proofs.Math.Seq.{take-append-add}
use Rattle.std.proofs.lemmas.List.Elements.{All-head, All-tail, All-weaker, All-append, All-same}
use Rattle.std.specs.Str.{IsAscii}
use Rattle.view_spec.specs.declared.classes.CharClass.TheVariants.{Print}
use Rattle.view_spec.specs.Characters.{class_of}
use Rattle.view_spec.specs.Shown.{signs, survivors, bells, ends_with_cr}
use Rattle.view_spec.proofs.Steps.{stands-print, bells_same, bells_le, ends_with_cr-last, plain_class}
use Rattle.t140_text.specs.declared.screens.Screen.{Screen}
use Rattle.t140_text.specs.Screens.{IsPlain, Reads}

regrouped : (cs rest : List ℕ) (c : ℕ) → cs ++ (c ∷ rest) ≡ (cs ++ c ∷ []) ++ rest
regrouped cs rest c = sym (append_assoc cs (c ∷ []) rest)

pub stands-plain : (plain cs : List ℕ) → All IsPlain plain → survivors (signs (cs ++ plain)) ≡ survivors (signs cs) ++ plain
stands-plain [] cs h = ap (λ (l : List ℕ). survivors (signs l)) (append-nil cs) ∙ sym (append-nil (survivors (signs cs)))
stands-plain (c ∷ rest) cs h =
    let p = All-head IsPlain c rest h in
    ap (λ (l : List ℕ). survivors (signs l)) (regrouped cs rest c)
    ∙ (stands-plain rest (cs ++ c ∷ []) (All-tail IsPlain c rest h)
    ∙ (ap (λ (l : List ℕ). l ++ rest) (stands-print cs c (plain_class c p.from p.to))
    ∙ append_assoc (survivors (signs cs)) (c ∷ []) rest))

pub bells-plain : (plain cs : List ℕ) → All IsPlain plain → bells (cs ++ plain) ≡ bells cs
bells-plain [] cs h = ap bells (append-nil cs)
bells-plain (c ∷ rest) cs h =
    let p = All-head IsPlain c rest h in
    ap bells (regrouped cs rest c)
    ∙ (bells-plain rest (cs ++ c ∷ []) (All-tail IsPlain c rest h)
    ∙ bells_same cs c (rw (plain_class c p.from p.to) refl))

pub cr-plain : (plain cs : List ℕ) → All IsPlain plain → 0 < length plain → ends_with_cr (cs ++ plain) ≡ false
cr-plain [] cs h some = absurd (omega arith)
cr-plain (c ∷ []) cs h some =
    let p = All-head IsPlain c [] h in
    let lo = p.from in
    let e : eqb c 0x0D ≡ false = grind (arith, nat_tests) in
    ends_with_cr-last cs c ∙ e
cr-plain (c ∷ d ∷ rest) cs h some =
    ap ends_with_cr (regrouped cs (d ∷ rest) c) ∙ cr-plain (d ∷ rest) (cs ++ c ∷ []) (All-tail IsPlain c (d ∷ rest) h) (omega arith)

pub ascii-plain : (plain : List ℕ) → All IsPlain plain → IsAscii plain
ascii-plain plain h = IsAscii-from_all plain (All-weaker IsPlain (λ (b : ℕ). b < 128) (λ (b : ℕ) (p : IsPlain b). let hi = p.to in omega (arith, hi)) plain h)

-- the text after plain characters, and what is read after them
pub longer_by : (old plain cs : List ℕ) → All IsPlain plain → old ≡ encode_utf8_all (survivors (signs cs)) → old ++ plain ≡ encode_utf8_all (survivors (signs (cs ++ plain)))
longer_by old plain cs h e =
    ap (λ (l : List ℕ). l ++ plain) e
    ∙ (ap (λ (l : List ℕ). encode_utf8_all (survivors (signs cs)) ++ l) (sym (encodes-IsAscii plain (ascii-plain plain h)))
    ∙ (sym (encodes-append (survivors (signs cs)) plain) ∙ ap encode_utf8_all (sym (stands-plain plain cs h))))

pub read_on : (plain rest past whole : List ℕ) → All IsPlain plain → past ++ chars (plain ++ rest) ≡ whole → (past ++ plain) ++ chars rest ≡ whole
read_on plain rest past whole h e =
    let ascii = ascii-plain plain h in
    append_assoc past plain (chars rest)
    ∙ (ap (λ (l : List ℕ). past ++ (l ++ chars rest)) (sym (chars-IsAscii plain ascii))
    ∙ (ap (λ (l : List ℕ). past ++ l) (sym (chars-append plain rest (IsUtf8-from_ascii plain ascii))) ∙ e))

-- a longer front
take_more : (n k : ℕ) (l : List ℕ) → n ≤ length l → take (n + k) l ≡ take n l ++ take k (drop n l)
take_more n k l h =
    ap (λ (x : List ℕ). take (n + k) x) (sym (take-append-drop n l))
    ∙ (ap (λ (m : ℕ). take (m + k) (take n l ++ drop n l)) (sym (length-take-le n l h)) ∙ take-append-add (take n l) (drop n l) k)

pub plain_more : (n k : ℕ) (l : List ℕ) → n ≤ length l → All IsPlain (take n l) → All IsPlain (take k (drop n l)) → All IsPlain (take (n + k) l)
plain_more n k l h p q = All-same IsPlain (take (n + k) l) (take n l ++ take k (drop n l)) (take_more n k l h) (All-append IsPlain (take n l) (take k (drop n l)) p q)

-- one more bell can be counted
pub bell_fits : (screen : Screen) (rest whole : List ℕ) → Reads screen rest whole → IsUtf8 whole → length whole < 2 ^ 63 → screen.bells + 1 < 2 ^ 64
bell_fits screen rest whole r u size =
    omega (arith, r.holds.rung, bells_le r.past, length-append r.past (chars rest), ap length r.is, length-le-encodes (chars whole), ap length (encodes-chars whole u), size)
