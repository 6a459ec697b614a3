-- The digits at the front of a text, and a number before a space (profile).
use Rattle.std.specs.Prelude.{◌≡◌, ℕ, ◌<◌, ◌≤◌, true, false, List, length, take, slice_index, Option, option_and_then}
use Rattle.std.specs.List.{list_all}
use Rattle.std.specs.Option.{option_map}
use Rattle.std.specs.Char.{is_ascii_digit}
use Rattle.std.specs.Str.Parse.{digits_value}
use Rattle.file_spec.specs.Numbers.{number}
use Rattle.file_spec.specs.Script.{around_space}
use Rattle.script_text.specs.declared.numerals.Front.{Front}
use denote.Ref.{Bor}

-- the first octets of the text are these digits: all that stand there, if they are fewer than ten
pub record AreInFront (text : List ℕ) (d : Front) : Type 0 where
  pub value : d.value ≡ digits_value 10 (take d.len text)
  pub digits : list_all is_ascii_digit (take d.len text) ≡ true
  pub most : d.len ≤ 10
  pub within : d.len ≤ length text
  pub end : d.len < length text → d.len < 10 → is_ascii_digit (slice_index text d.len) ≡ false

-- the number before the first space, and what stands after that space
abbrev pub number_and_rest : ℕ → List ℕ → Option (ℕ × List ℕ)
number_and_rest most text = option_and_then (λ p. option_map (λ n. (n, p.1)) (number most p.0)) (around_space text)

-- the same as it is answered
abbrev pub number_and_octets : Option (ℕ × Bor (List ℕ)) → Option (ℕ × List ℕ)
number_and_octets parts = option_map (λ p. (p.0, p.1.now)) parts
