-- Lines of octets are the octets of lines.
use Rattle.std.proofs.Common.{◌≡◌, ℕ, suc, ◌<◌, Bool, true, false, cond, eqb, List, [], ◌∷◌, ◌++◌, map, length, get_or, inl, inr, refl, sym, ap, ◌∙◌, arith, append-nil, encode_utf8_all}
use Rattle.std.proofs.lemmas.Bool.{cases_eq}
use Rattle.std.proofs.lemmas.Bool.Decides.{nat_tests}
use Rattle.std.proofs.lemmas.Str.{inside_one, encode_ascii}
use Rattle.std.specs.Char.{encode_utf8}
use Rattle.std.specs.List.{onto_first}
use Rattle.view_spec.specs.Shown.{lines_of}

-- octets before the first line
abbrev before_first : List ℕ → List (List ℕ) → List (List ℕ)
before_first xs [] = xs ∷ []
before_first xs (line ∷ lines) = (xs ++ line) ∷ lines

in_first-before_first : (x : ℕ) (xs : List ℕ) (lines : List (List ℕ)) → onto_first x (before_first xs lines) ≡ before_first (x ∷ xs) lines
in_first-before_first x xs [] = refl
in_first-before_first x xs (line ∷ lines) = refl

other_code : (c d : ℕ) → (c ≡ d → ⊥) → eqb c d ≡ false
other_code c d h = grind (arith, nat_tests)

-- there is a first line
some_line : (cs : List ℕ) → (line : List ℕ) × (lines : List (List ℕ)) × (lines_of cs ≡ line ∷ lines)
some_line [] = ([], [], refl)
some_line (c ∷ cs) = go (eqb c 0x0A) (lines_of cs)
  where
    go : (b : Bool) (rest : List (List ℕ)) → (line : List ℕ) × (lines : List (List ℕ)) × (cond b ([] ∷ rest) (onto_first c rest) ≡ line ∷ lines)
    go true rest = ([], rest, refl)
    go false [] = (c ∷ [], [], refl)
    go false (line ∷ lines) = (c ∷ line, lines, refl)

before_none : (lines : List (List ℕ)) → (line : List ℕ) × (more : List (List ℕ)) × (lines ≡ line ∷ more) → lines ≡ before_first [] lines
before_none [] h = absurd (let e : [] ≡ h.0 ∷ h.1 = h.2 in cc)
before_none (line ∷ lines) h = refl

lines_of-append : (xs ys : List ℕ) → ((k : ℕ) → k < length xs → get_or xs k 0 ≡ 0x0A → ⊥) → lines_of (xs ++ ys) ≡ before_first xs (lines_of ys)
lines_of-append [] ys h = before_none (lines_of ys) (some_line ys)
lines_of-append (x ∷ xs) ys h =
    let other : eqb x 0x0A ≡ false = other_code x 0x0A (h 0 (omega arith)) in
    rw other (ap (onto_first x) (lines_of-append xs ys (λ k below. h (suc k) (omega arith))) ∙ in_first-before_first x xs (lines_of ys))

encoded_in_first : (c : ℕ) (lines : List (List ℕ)) → map encode_utf8_all (onto_first c lines) ≡ before_first (encode_utf8 c) (map encode_utf8_all lines)
encoded_in_first c [] = ap (λ l. l ∷ []) (append-nil (encode_utf8 c))
encoded_in_first c (line ∷ lines) = refl

-- an octet LF is the character LF
no_lf_inside : (c : ℕ) → (c ≡ 0x0A → ⊥) → (k : ℕ) → k < length (encode_utf8 c) → get_or (encode_utf8 c) k 0 ≡ 0x0A → ⊥
no_lf_inside c h k below e =
    let small : get_or (encode_utf8 c) k 0 < 128 = omega arith in
    let same = inside_one c [] (encode_utf8 c) k (sym (append-nil _)) below small in
    h (same ∙ e)

pub lines_of-encode : (cs : List ℕ) → lines_of (encode_utf8_all cs) ≡ map encode_utf8_all (lines_of cs)
lines_of-encode [] = refl
lines_of-encode (c ∷ cs) = elim (cases_eq c 0x0A) [
  | inl same ↦ rw (same, encode_ascii 0x0A (omega arith)) (ap (λ l. [] ∷ l) (lines_of-encode cs))
  | inr other ↦
      let e : eqb c 0x0A ≡ false = other_code c 0x0A other in
      rw e (lines_of-append (encode_utf8 c) (encode_utf8_all cs) (no_lf_inside c other)
      ∙ (ap (before_first (encode_utf8 c)) (lines_of-encode cs) ∙ sym (encoded_in_first c (lines_of cs))))
]
