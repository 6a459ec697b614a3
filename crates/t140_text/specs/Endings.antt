-- What the last characters of a text tell of its end.
use Rattle.std.specs.Prelude.{◌≡◌, ℕ, Bool, ◌||◌, List, [], ◌∷◌, ◌++◌, take, reverse}
use Rattle.view_spec.specs.Characters.{is_new_line}
use Rattle.view_spec.specs.Ends.{first_is, is_stopped, is_wide_stopped}
use Rattle.t140_text.specs.declared.ends.TextEnd.{TextEnd}

-- the three characters, the last one first
abbrev pub back : TextEnd → List ℕ
back e = e.last ∷ e.second ∷ e.third ∷ []

-- They are the last three of these characters; U+0000 stands where there are fewer.
abbrev pub IsEnding : TextEnd → List ℕ → Type 0
IsEnding e cs = take 3 (reverse cs ++ 0 ∷ 0 ∷ 0 ∷ []) ≡ back e

-- with one character more
abbrev pub pushed : TextEnd → ℕ → TextEnd
pushed e c = record { last = c; second = e.last; third = e.second }

abbrev pub is_line_end : TextEnd → Bool
is_line_end e = first_is is_new_line (back e)

abbrev pub is_sentence_end : TextEnd → Bool
is_sentence_end e = is_stopped (back e) || is_wide_stopped (back e)
