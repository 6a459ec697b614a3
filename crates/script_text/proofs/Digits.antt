-- The digits at the front of a text, against the numbers of command words and files.
use Rattle.std.proofs.Common.{◌≡◌, ℕ, ◌<◌, ◌≤◌, Bool, true, false, eqb, ltb, cond, List, [], ◌∷◌, ◌+◌, ◌*◌, ◌-◌, length, take, drop, get_or, Option, Some, None, arith, refl, ap, sym, subst, ◌∙◌}
use Rattle.std.specs.Prelude.{nat_le, nat_lt, ◌&&◌}
use Rattle.std.specs.List.{list_all, position_or_len}
use Rattle.std.specs.Prelude.{option_and_then}
use Rattle.std.specs.Option.{option_map}
use Rattle.std.specs.Char.{digit_value, is_ascii_digit}
use Rattle.std.specs.Str.{all_ascii_digits}
use Rattle.std.specs.Str.Parse.{digits_value}
use Rattle.std.proofs.lemmas.List.{get_or-take, length-take-le, take_all}
use Rattle.std.proofs.lemmas.List.Folds.{list_all_at, list_all_more}
use Rattle.std.proofs.lemmas.List.Sums.{position_or_len_is, passes_at_first}
use Rattle.std.proofs.lemmas.Bool.{and_right, and_left, and_from, false_from_ne_true, both_ways, le-ltb, lt-ltb, lt-leb, le-leb, eqb-true, ltb-false, ltb-true}
use Rattle.file_spec.specs.Numbers.{is_number, number}
use Rattle.file_spec.specs.Script.{around_space}
use Rattle.std.proofs.lemmas.Str.Parse.{IsNumeralModel, numerals_by_value, tells_all_ascii_digits, digits_value_short}
use Rattle.std.proofs.lemmas.Int.Digits.{digits_value_more}
use Rattle.script_text.specs.declared.numerals.Front.{Front}
use Rattle.script_text.specs.Fronts.{AreInFront, number_and_rest}

numerals : IsNumeralModel (λ ds. all_ascii_digits ds ≡ true) (digits_value 10)
numerals = numerals_by_value _ tells_all_ascii_digits

all_digits_agree : (text : List ℕ) → list_all is_ascii_digit text ≡ all_ascii_digits text
all_digits_agree [] = refl
all_digits_agree (c ∷ cs) = ap (λ b. is_ascii_digit c && b) (all_digits_agree cs)

-- at most ten digits have a small value
pub value_small : (text : List ℕ) (i value : ℕ) → i ≤ length text → i ≤ 10 → list_all is_ascii_digit (take i text) ≡ true → value ≡ digits_value 10 (take i text) → value < 10000000000
value_small text i value within most digits v =
    let short : length (take i text) ≤ 10 = omega (arith, length-take-le i text within) in
    let below = digits_value_short numerals (take i text) 10 (sym (all_digits_agree (take i text)) ∙ digits) short in
    omega (arith, below, v)

-- with one digit more
pub one_more : (text : List ℕ) (i value digit : ℕ) → i < length text → value ≡ digits_value 10 (take i text) → digit ≡ digit_value (get_or text i 0) → 10 * value + digit ≡ digits_value 10 (take (i + 1) text)
one_more text i value digit below v d = omega (arith, v, d, digits_value_more 10 text i below)

pub digit_more : (text : List ℕ) (i : ℕ) → i < length text → list_all is_ascii_digit (take i text) ≡ true → is_ascii_digit (get_or text i 0) ≡ true → list_all is_ascii_digit (take (i + 1) text) ≡ true
digit_more text i below before here = list_all_more is_ascii_digit text i 0 below ∙ and_from _ _ before here

-- a digit is no space
digit_not_space : (c : ℕ) → is_ascii_digit c ≡ true → eqb c 32 ≡ false
digit_not_space c d = false_from_ne_true (eqb c 32) (λ e. both_ways (is_ascii_digit c) (ap is_ascii_digit (eqb-true c 32 e)) d)

digit_at : (text : List ℕ) (n k : ℕ) → n ≤ length text → list_all is_ascii_digit (take n text) ≡ true → k < n → is_ascii_digit (get_or text k 0) ≡ true
digit_at text n k within digits below = elim (is_ascii_digit (get_or text k 0)) as (λ b. is_ascii_digit (get_or text k 0) ≡ b → is_ascii_digit (get_or text k 0) ≡ true) [
  | true ↦ λ e. e
  | false ↦ λ e. absurd (both_ways (list_all is_ascii_digit (take n text))
      (list_all_at is_ascii_digit (take n text) k 0 (omega (arith, length-take-le n text within)) (ap is_ascii_digit (get_or-take n text k 0 below) ∙ e)) digits)
] refl

no_space_before : (text : List ℕ) (d : Front) → AreInFront text d → (k : ℕ) → k < d.len → eqb (get_or text k 0) 32 ≡ false
no_space_before text d a k below = digit_not_space (get_or text k 0) (digit_at text d.len k a.within a.digits below)

-- what goes on behind the digits is no number
pub not_further : (text : List ℕ) (d : Front) (n : ℕ) → AreInFront text d → d.len < n → n ≤ length text → is_number (take n text) ≡ false
not_further text d n a past within =
    let long : length (take n text) ≡ n = length-take-le n text within in
    elim (ltb d.len 10) as (λ b. ltb d.len 10 ≡ b → is_number (take n text) ≡ false) [
      | true ↦ λ e. let here : is_ascii_digit (get_or text d.len 0) ≡ false = a.end (omega arith) (grind (arith, e)) in
          and_right (nat_lt 0 (length (take n text))) _ (and_right (nat_le (length (take n text)) 10) _
          (list_all_at is_ascii_digit (take n text) d.len 0 (omega (arith, long)) (ap is_ascii_digit (get_or-take n text d.len 0 past) ∙ here)))
      | false ↦ λ e. let many : 10 < length (take n text) = let ten : 10 ≤ d.len = ltb-false d.len 10 e in omega (arith, long) in
          and_right (nat_lt 0 (length (take n text))) _ (and_left (nat_le (length (take n text)) 10) _ (lt-leb (length (take n text)) 10 many))
    ] refl

not_empty : (text : List ℕ) → length text ≡ 0 → is_number text ≡ false
not_empty text e = and_left (nat_lt 0 (length text)) _ (le-ltb 0 (length text) (omega (arith, e)))

-- one to ten digits are a number
digits_are : (text : List ℕ) (d : Front) → AreInFront text d → 0 < d.len → is_number (take d.len text) ≡ true
digits_are text d a some =
    let long : length (take d.len text) ≡ d.len = length-take-le d.len text a.within in
    and_from _ _ (lt-ltb 0 (length (take d.len text)) (omega (arith, long))) (and_from _ _ (le-leb (length (take d.len text)) 10 (let m = a.most in omega (arith, long))) a.digits)

pub no_number : (most : ℕ) (text : List ℕ) → is_number text ≡ false → number most text ≡ None
no_number most text e = rw e refl

pub number_is : (most : ℕ) (text : List ℕ) (d : Front) → AreInFront text d → 0 < d.len → d.value ≤ most → number most (take d.len text) ≡ Some d.value
number_is most text d a some small =
    let v = a.value in
    let le : nat_le (digits_value 10 (take d.len text)) most ≡ true = le-leb _ _ (omega (arith, v)) in
    rw (digits_are text d a some, le) (ap Some (sym v))

pub number_over : (most : ℕ) (text : List ℕ) (d : Front) → AreInFront text d → 0 < d.len → most < d.value → number most (take d.len text) ≡ None
number_over most text d a some large =
    let v = a.value in
    let le : nat_le (digits_value 10 (take d.len text)) most ≡ false = lt-leb _ _ (omega (arith, v)) in
    rw (digits_are text d a some, le) refl

pub number_of_none : (most : ℕ) (text : List ℕ) (d : Front) → AreInFront text d → d.len ≡ 0 → number most (take d.len text) ≡ None
number_of_none most text d a none = no_number most (take d.len text) (not_empty (take d.len text) (length-take-le d.len text a.within ∙ none))

-- the whole text, where it is all digits
pub whole : (text : List ℕ) (d : Front) → AreInFront text d → length text ≤ d.len → take d.len text ≡ text
whole text d a all = take_all d.len text all

pub no_number_further : (most : ℕ) (text : List ℕ) (d : Front) → AreInFront text d → d.len < length text → number most text ≡ None
no_number_further most text d a more = no_number most text (subst (λ t. is_number t ≡ false) (take_all (length text) text (omega arith)) (not_further text d (length text) a more (omega arith)))

-- where a space stands right behind the digits, it is the first one
place_is : (text : List ℕ) (d : Front) → AreInFront text d → get_or text d.len 0 ≡ 32 → position_or_len (λ c. eqb c 32) text ≡ d.len
place_is text d a e = position_or_len_is (λ (c : ℕ). eqb c 32) text d.len 0 a.within (no_space_before text d a) (λ _. ap (λ (c : ℕ). eqb c 32) e)

pub around_is : (text : List ℕ) (d : Front) → AreInFront text d → d.len < length text → get_or text d.len 0 ≡ 32 → around_space text ≡ Some (take d.len text, drop (d.len + 1) text)
around_is text d a within e =
    ap (λ (n : ℕ). cond (ltb n (length text)) (Some (take n text, drop (n + 1) text)) None) (place_is text d a e)
    ∙ ap (λ (b : Bool). cond b (Some (take d.len text, drop (d.len + 1) text)) None) (lt-ltb d.len (length text) within)

pub rest_is : (most : ℕ) (text : List ℕ) (d : Front) (o : Option ℕ) → AreInFront text d → d.len < length text → get_or text d.len 0 ≡ 32 → number most (take d.len text) ≡ o
    → number_and_rest most text ≡ option_map (λ n. (n, drop (d.len + 1) text)) o
rest_is most text d o a within e n =
    ap (λ (p : Option (List ℕ × List ℕ)). option_and_then {U = ℕ × List ℕ} (λ (q : List ℕ × List ℕ). option_map (λ (m : ℕ). (m, q.1)) (number most q.0)) p) (around_is text d a within e)
    ∙ ap (λ (r : Option ℕ). option_map (λ (m : ℕ). (m, drop (d.len + 1) text)) r) n

no_rest_either : (b : Bool) (most : ℕ) (x y : List ℕ) → (b ≡ true → number most x ≡ None)
    → option_and_then {U = ℕ × List ℕ} (λ (p : List ℕ × List ℕ). option_map (λ (n : ℕ). (n, p.1)) (number most p.0)) (cond b (Some (x, y)) None) ≡ None
no_rest_either true most x y h = ap (λ (o : Option ℕ). option_map (λ (n : ℕ). (n, y)) o) (h refl)
no_rest_either false most x y h = refl

-- a space that stands at a digit
no_space_there : (text : List ℕ) (d : Front) → AreInFront text d → position_or_len (λ c. eqb c 32) text < length text → position_or_len (λ c. eqb c 32) text < d.len → ⊥
no_space_there text d a within before =
    let p = position_or_len (λ (c : ℕ). eqb c 32) text in
    both_ways (eqb (get_or text p 0) 32) (no_space_before text d a p before) (passes_at_first (λ (c : ℕ). eqb c 32) text 0 within)

pub no_rest : (most : ℕ) (text : List ℕ) (d : Front) → AreInFront text d → length text ≤ d.len → number_and_rest most text ≡ None
no_rest most text d a all =
    let p = position_or_len (λ (c : ℕ). eqb c 32) text in
    no_rest_either (ltb p (length text)) most (take p text) (drop (p + 1) text)
    (λ e. let within : p < length text = ltb-true p (length text) e in absurd (no_space_there text d a within (omega arith)))

-- a space stands further behind than the octet that ends the digits
space_past : (text : List ℕ) (d : Front) → AreInFront text d → (get_or text d.len 0 ≡ 32 → ⊥) → position_or_len (λ c. eqb c 32) text < length text → d.len < position_or_len (λ c. eqb c 32) text
space_past text d a other within =
    let p = position_or_len (λ (c : ℕ). eqb c 32) text in
    elim (ltb d.len p) as (λ b. ltb d.len p ≡ b → d.len < p) [
      | true ↦ λ e. ltb-true d.len p e
      | false ↦ λ e. let low : p ≤ d.len = ltb-false d.len p e in
          elim (ltb p d.len) as (λ b. ltb p d.len ≡ b → d.len < p) [
            | true ↦ λ f. absurd (no_space_there text d a within (ltb-true p d.len f))
            | false ↦ λ f. let high : d.len ≤ p = ltb-false p d.len f in let same : p ≡ d.len = omega (arith, low, high) in
                absurd (other (ap (λ (k : ℕ). get_or text k 0) (sym same) ∙ eqb-true (get_or text p 0) 32 (passes_at_first (λ (c : ℕ). eqb c 32) text 0 within)))
          ] refl
    ] refl

pub no_rest_further : (most : ℕ) (text : List ℕ) (d : Front) → AreInFront text d → (get_or text d.len 0 ≡ 32 → ⊥) → number_and_rest most text ≡ None
no_rest_further most text d a other =
    let p = position_or_len (λ (c : ℕ). eqb c 32) text in
    no_rest_either (ltb p (length text)) most (take p text) (drop (p + 1) text)
    (λ e. let within : p < length text = ltb-true p (length text) e in
    no_number most (take p text) (not_further text d p a (space_past text d a other within) (omega arith)))
