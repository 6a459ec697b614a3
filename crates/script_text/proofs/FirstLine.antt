-- The first line of octets, and the lines after it.
use Rattle.std.proofs.Common.{◌≡◌, ℕ, ◌+◌, ◌<◌, ◌≤◌, Bool, true, false, eqb, cond, List, [], ◌∷◌, length, get_or, take, drop, Option, Some, None, ltb, refl, ap, sym, ◌∙◌, arith}
use Rattle.std.specs.Prelude.{not}
use Rattle.memchr.specs.Find.{IsFirstByte, is_byte}
use Rattle.std.specs.List.{slice_split, onto_first, position_or_len, position}
use Rattle.std.specs.Str.Lines.{lines, lines_of_parts, strip_carriage_return}
use Rattle.std.proofs.lemmas.List.Splits.{slice_split_first, length-slice_split}
use Rattle.std.proofs.lemmas.List.Sums.{position_or_len_is, prefix_len-le-length}
use Rattle.std.proofs.lemmas.Bool.{le-ltb, lt-ltb, ltb-false, ne_eqb, false_from_ne_true as not_so}
use Rattle.file_spec.proofs.Plain.{lines_of_parts-cons}
use Rattle.script_text.proofs.EscapeLoop.{missing}

-- the first octet of this value, as a search by many octets at a time finds it
pub first_is : (octet : ℕ) (octets : List ℕ) (r : Option ℕ) → IsFirstByte (is_byte octet) octets r → r ≡ position (λ c. eqb c octet) octets
first_is octet octets None none =
    let p = λ (c : ℕ). eqb c octet in
    let at : position_or_len p octets ≡ length octets = position_or_len_is p octets (length octets) 0 (omega arith) (λ k l. not_so (p (get_or octets k 0)) (none k (omega arith) l)) (λ l. absurd (omega arith)) in
    sym (ap (λ (n : ℕ). cond (ltb n (length octets)) (Some n) None) at ∙ ap (λ (b : Bool). cond b (Some (length octets)) None) (le-ltb (length octets) (length octets) (omega arith)))
first_is octet octets (Some k) h =
    let p = λ (c : ℕ). eqb c octet in
    let high : k < length octets = h.0.high in
    let at : position_or_len p octets ≡ k = position_or_len_is p octets k 0 (omega arith) (λ j l. not_so (p (get_or octets j 0)) (h.0.before j (omega arith) l)) (λ l. h.1) in
    sym (ap (λ (n : ℕ). cond (ltb n (length octets)) (Some n) None) at ∙ ap (λ (b : Bool). cond b (Some k) None) (lt-ltb k (length octets) high))

found : (b : Bool) (p i : ℕ) → cond b (Some p) None ≡ Some i → (b ≡ true) × (p ≡ i)
found true p i e = (refl, cc)
found false p i e = absurd (cc)

pub a_line_ends : (octets : List ℕ) (end : ℕ) → position (λ c. eqb c 10) octets ≡ Some end
    → lines octets ≡ strip_carriage_return (take end octets) ∷ lines (drop (end + 1) octets)
a_line_ends octets end e =
    let p = λ (c : ℕ). eqb c 10 in
    let at = found _ _ _ e in
    let within : position_or_len p octets < length octets = grind (arith, at.0) in
    let parts = slice_split_first p octets 0 within in
    ap lines_of_parts parts
    ∙ lines_of_parts-cons (take (position_or_len p octets) octets) (slice_split p (drop (position_or_len p octets + 1) octets)) (omega (arith, length-slice_split p (drop (position_or_len p octets + 1) octets)))
    ∙ ap (λ n. strip_carriage_return (take n octets) ∷ lines (drop (n + 1) octets)) at.1

part_step : (b : Bool) (c : ℕ) (more : List ℕ) → cond (not b) (1 + position_or_len (λ c. eqb c 10) more) 0 ≡ 1 + length more
    → (position_or_len (λ c. eqb c 10) more ≡ length more → slice_split (λ c. eqb c 10) more ≡ more ∷ [])
    → cond b ([] ∷ slice_split (λ c. eqb c 10) more) (onto_first c (slice_split (λ c. eqb c 10) more)) ≡ (c ∷ more) ∷ []
part_step true c more e ih = absurd (omega arith)
part_step false c more e ih = ap (λ parts. onto_first c parts) (ih (omega arith))

one_part : (octets : List ℕ) → position_or_len (λ c. eqb c 10) octets ≡ length octets → slice_split (λ c. eqb c 10) octets ≡ octets ∷ []
one_part [] e = refl
one_part (c ∷ more) e = part_step (eqb c 10) c more (e ∙ omega arith) (one_part more)

pub no_line_ends : (octets : List ℕ) → position (λ c. eqb c 10) octets ≡ None → 0 < length octets → lines octets ≡ octets ∷ []
no_line_ends octets e some =
    let p = λ (c : ℕ). eqb c 10 in
    let past = missing _ _ e in
    let at_end : position_or_len p octets ≡ length octets = let far : length octets ≤ position_or_len p octets = ltb-false _ _ past in omega (arith, prefix_len-le-length (λ c. not (p c)) octets) in
    ap lines_of_parts (one_part octets at_end) ∙ ap (λ t. cond t [] (octets ∷ [])) (ne_eqb (length octets) 0 (λ z. omega arith))
