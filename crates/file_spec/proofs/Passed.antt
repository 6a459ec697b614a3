-- What tests have let through.
use Rattle.std.proofs.Common.{◌≡◌, ℕ, ◌≤◌, Bool, true, false, Option, Some, None, List, refl, arith}
use Rattle.std.specs.Prelude.{◌&&◌, nat_le, nat_lt, if◌then◌else◌, Ok, option_and_then}
use Rattle.std.specs.Option.{ok_or}
use Rattle.std.specs.Str.Parse.{digits_value}
use Rattle.std.proofs.lemmas.Bool.{and_parts, leb-true, ltb-false}
use Rattle.file_spec.specs.Steps.{unless}
use Rattle.file_spec.specs.Numbers.{is_number, number, number_between}
use Rattle.file_spec.specs.Sound.{IsBetween}

pub unless_ok : {A E : Type 0} (b : Bool) (r : E) (x y : A) → unless b r x ≡ Ok y → (b ≡ false) × (x ≡ y)
unless_ok true r x y e = absurd (cc e)
unless_ok false r x y e = (refl, cc e)

pub ok_or_ok : {A E : Type 0} (o : Option A) (r : E) (y : A) → ok_or o r ≡ Ok y → o ≡ Some y
ok_or_ok None r y e = absurd (cc e)
ok_or_ok (Some x) r y e = cc e

pub then_some : {A B : Type 0} (o : Option A) (f : A → Option B) (y : B) → option_and_then f o ≡ Some y → (x : A) × (o ≡ Some x) × (f x ≡ Some y)
then_some None f y e = absurd (cc e)
then_some (Some x) f y e = (x, refl, e)

pub chosen : {A : Type 0} (b : Bool) (x y : A) → (if b then Some x else None) ≡ Some y → (b ≡ true) × (x ≡ y)
chosen true x y e = (refl, cc e)
chosen false x y e = absurd (cc e)

pub not_chosen : {A : Type 0} (b : Bool) (x y : A) → (if b then None else Some x) ≡ Some y → (b ≡ false) × (x ≡ y)
not_chosen true x y e = absurd (cc e)
not_chosen false x y e = (refl, cc e)

pub number_most : (most : ℕ) (text : List ℕ) (n : ℕ) → number most text ≡ Some n → n ≤ most
number_most most text n e =
    let c = chosen (is_number text && nat_le (digits_value 10 text) most) (digits_value 10 text) n e in
    let l = leb-true (digits_value 10 text) most (and_parts (is_number text) (nat_le (digits_value 10 text) most) c.0).1 in
    omega arith

pub number_in : (least most : ℕ) (text : List ℕ) (n : ℕ) → number_between least most text ≡ Some n → IsBetween least most n
number_in least most text n e =
    let a = then_some (number most text) (λ n. if nat_lt n least then None else Some n) n e in
    let c = not_chosen (nat_lt a.0 least) a.0 n a.2 in
    let low = ltb-false a.0 least c.0 in
    let high = number_most most text a.0 a.1 in
    record { low = omega arith; high = omega arith }
