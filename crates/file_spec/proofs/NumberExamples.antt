-- Worked examples of numbers, by computing.
use Rattle.std.proofs.Common.{◌≡◌, refl, None, Some, codes}
use Rattle.file_spec.specs.Numbers.{number}

leading_zeros_count_for_nothing : number 65535 (codes "0000065535") ≡ Some 65535
leading_zeros_count_for_nothing = refl

eleven_digits_are_too_many : number 65535 (codes "00000000001") ≡ None
eleven_digits_are_too_many = refl

one_more_than_the_greatest : number 65535 (codes "65536") ≡ None
one_more_than_the_greatest = refl

a_sign_is_no_digit : number 65535 (codes "+1") ≡ None
a_sign_is_no_digit = refl
