-- Where a text ends a line or a sentence, so that another person's may follow (profile).
-- Its characters are read from the last one back.
use Rattle.std.specs.Prelude.{ℕ, Bool, false, ◌||◌, ◌&&◌, ◌==◌, if◌then◌else◌, List, [], ◌∷◌, reverse, chars}
use Rattle.view_spec.specs.Characters.{is_new_line}

abbrev pub from_end : List ℕ → List ℕ
from_end text = reverse (chars text)

-- the first of the characters is such a one
abbrev pub first_is : (ℕ → Bool) → List ℕ → Bool
first_is p [] = false
first_is p (c ∷ cs) = p c

-- the characters without the first, where it is such a one
abbrev pub past_one : (ℕ → Bool) → List ℕ → List ℕ
past_one p [] = []
past_one p (c ∷ cs) = if p c then cs else c ∷ cs

abbrev pub is_space : ℕ → Bool
is_space c = c == 0x20

-- `.`, `?` and `!`, the Arabic question mark and full stop, the danda, and the ellipsis
abbrev pub is_stop : ℕ → Bool
is_stop c = c == 0x2E || c == 0x3F || c == 0x21 || c == 0x061F || c == 0x06D4 || c == 0x0964 || c == 0x2026

-- the ideographic full stop, and the full-width `!`, `.` and `?`
abbrev pub is_wide_stop : ℕ → Bool
is_wide_stop c = c == 0x3002 || c == 0xFF01 || c == 0xFF0E || c == 0xFF1F

-- `"`, `'` and `)`, and the right quotation marks
abbrev pub is_closing : ℕ → Bool
is_closing c = c == 0x22 || c == 0x27 || c == 0x29 || c == 0x2019 || c == 0x201D

-- one of these, a right corner bracket, or the full-width `)`
abbrev pub is_wide_closing : ℕ → Bool
is_wide_closing c = is_closing c || c == 0x300D || c == 0x300F || c == 0xFF09

-- a text ends a line with LF, CR or U+2028
unfoldable pub ends_line : List ℕ → Bool
ends_line text = first_is is_new_line (from_end text)

-- from the last one back: a space, at most one closing mark, and a stop
abbrev pub is_stopped : List ℕ → Bool
is_stopped back = first_is is_space back && first_is is_stop (past_one is_closing (past_one is_space back))

-- from the last one back: at most one space, at most one closing mark, and a wide stop
abbrev pub is_wide_stopped : List ℕ → Bool
is_wide_stopped back = first_is is_wide_stop (past_one is_wide_closing (past_one is_space back))

-- it ends a sentence with one of these
unfoldable pub ends_sentence : List ℕ → Bool
ends_sentence text = is_stopped (from_end text) || is_wide_stopped (from_end text)
