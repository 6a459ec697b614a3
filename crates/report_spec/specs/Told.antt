-- Names as they are told (profile).
use Rattle.std.specs.Prelude.{List, ℕ, ◌||◌, chars, encode_utf8, flat_map, if◌then◌else◌}
use Rattle.std.specs.Char.{is_control}
use Rattle.view_spec.specs.TextViews.{is_direction}

-- a character of a name as it is told: U+FFFD for a control character, and for one that turns the direction in which text runs
abbrev pub told_character : ℕ → ℕ
told_character c = if is_control c || is_direction c then 0xFFFD else c

-- a name as it is told
abbrev pub told_name : List ℕ → List ℕ
told_name name = flat_map (λ c. encode_utf8 (told_character c)) (chars name)
