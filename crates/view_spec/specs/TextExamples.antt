-- The definitions at small texts, each by computing.
use Rattle.std.specs.Prelude.{◌≡◌, ℕ, Bool, true, false, List, [], ◌∷◌, codes, map, encode_utf8_all, refl}
use Rattle.std.specs.Str.{chars}
use Rattle.std.specs.Char.{encode_utf8}
use Rattle.view_spec.specs.Characters.{class_of, is_open_after}
use Rattle.view_spec.specs.Shown.{shown}
use Rattle.view_spec.specs.Ends.{ends_line, ends_sentence}
use Rattle.view_spec.specs.TextViews.{label, label_after}

-- `ab`, three erasures, `c`
three_erasures : shown (97 ∷ 98 ∷ 8 ∷ 8 ∷ 8 ∷ 99 ∷ []) ≡ record { lines = (99 ∷ []) ∷ []; bells = 0 }
unfolding shown class_of chars encode_utf8
three_erasures = refl

-- an erasure takes back CR LF as one
one_erasure_of_cr_lf : shown (97 ∷ 13 ∷ 10 ∷ 8 ∷ 98 ∷ []) ≡ record { lines = (97 ∷ 98 ∷ []) ∷ []; bells = 0 }
unfolding shown class_of chars encode_utf8
one_erasure_of_cr_lf = refl

one_bell : shown (97 ∷ 7 ∷ 98 ∷ []) ≡ record { lines = (97 ∷ 98 ∷ []) ∷ []; bells = 1 }
unfolding shown class_of chars encode_utf8
one_bell = refl

nothing : shown [] ≡ record { lines = [] ∷ []; bells = 0 }
unfolding shown class_of chars encode_utf8
nothing = refl

erasures_alone : shown (8 ∷ 8 ∷ []) ≡ record { lines = [] ∷ []; bells = 0 }
unfolding shown class_of chars encode_utf8
erasures_alone = refl

-- U+FEFF shows nothing
byte_order_mark : shown (0xEF ∷ 0xBB ∷ 0xBF ∷ []) ≡ record { lines = [] ∷ []; bells = 0 }
unfolding shown class_of chars encode_utf8
byte_order_mark = refl

-- U+FFFD is shown
missing_marker : shown (0xEF ∷ 0xBF ∷ 0xBD ∷ []) ≡ record { lines = (0xEF ∷ 0xBF ∷ 0xBD ∷ []) ∷ []; bells = 0 }
unfolding shown class_of chars encode_utf8
missing_marker = refl

-- with `(m)` for U+FFFD: `ab(m)c`, four erasures, `d` show `ab(m)d`
erasures_stop_at_a_marker : shown (97 ∷ 98 ∷ 0xEF ∷ 0xBF ∷ 0xBD ∷ 99 ∷ 8 ∷ 8 ∷ 8 ∷ 8 ∷ 100 ∷ []) ≡ record { lines = (97 ∷ 98 ∷ 0xEF ∷ 0xBF ∷ 0xBD ∷ 100 ∷ []) ∷ []; bells = 0 }
unfolding shown class_of chars encode_utf8
erasures_stop_at_a_marker = refl

-- `a(m)(m)` and an erasure show `a(m)(m)`
a_marker_stays : shown (97 ∷ 0xEF ∷ 0xBF ∷ 0xBD ∷ 0xEF ∷ 0xBF ∷ 0xBD ∷ 8 ∷ []) ≡ record { lines = (97 ∷ 0xEF ∷ 0xBF ∷ 0xBD ∷ 0xEF ∷ 0xBF ∷ 0xBD ∷ []) ∷ []; bells = 0 }
unfolding shown class_of chars encode_utf8
a_marker_stays = refl

-- `(m)`, LF, two erasures and `b` show `(m)b`
a_new_line_behind_a_marker : shown (0xEF ∷ 0xBF ∷ 0xBD ∷ 10 ∷ 8 ∷ 8 ∷ 98 ∷ []) ≡ record { lines = (0xEF ∷ 0xBF ∷ 0xBD ∷ 98 ∷ []) ∷ []; bells = 0 }
unfolding shown class_of chars encode_utf8
a_new_line_behind_a_marker = refl

cr_alone : shown (97 ∷ 13 ∷ 98 ∷ []) ≡ record { lines = (97 ∷ []) ∷ (98 ∷ []) ∷ []; bells = 0 }
unfolding shown class_of chars encode_utf8
cr_alone = refl

lf_alone : shown (97 ∷ 10 ∷ 98 ∷ []) ≡ record { lines = (97 ∷ []) ∷ (98 ∷ []) ∷ []; bells = 0 }
unfolding shown class_of chars encode_utf8
lf_alone = refl

lf_cr : shown (97 ∷ 10 ∷ 13 ∷ 98 ∷ []) ≡ record { lines = (97 ∷ []) ∷ [] ∷ (98 ∷ []) ∷ []; bells = 0 }
unfolding shown class_of chars encode_utf8
lf_cr = refl

line_separator : shown (97 ∷ 0xE2 ∷ 0x80 ∷ 0xA8 ∷ 98 ∷ []) ≡ record { lines = (97 ∷ []) ∷ (98 ∷ []) ∷ []; bells = 0 }
unfolding shown class_of chars encode_utf8
line_separator = refl

paragraph_separator : shown (97 ∷ 0xE2 ∷ 0x80 ∷ 0xA9 ∷ 98 ∷ []) ≡ record { lines = (97 ∷ []) ∷ (98 ∷ []) ∷ []; bells = 0 }
unfolding shown class_of chars encode_utf8
paragraph_separator = refl

-- ---- ends
-- whether these characters end a sentence
abbrev of_sentence : List ℕ → Bool
of_sentence cs = ends_sentence (encode_utf8_all cs)

-- `Hi. ` does, and without the space it does not; nor does `Hi, `
sentence_end : of_sentence (codes "Hi. ") ≡ true
unfolding ends_sentence chars encode_utf8
sentence_end = refl

no_sentence_end : of_sentence (codes "Hi.") ≡ false
unfolding ends_sentence chars encode_utf8
no_sentence_end = refl

no_comma_end : of_sentence (codes "Hi, ") ≡ false
unfolding ends_sentence chars encode_utf8
no_comma_end = refl

-- a closing mark may stand between, one alone
quoted_end : map of_sentence (codes "Hi!\" " ∷ codes "(no?) " ∷ (0x2026 ∷ 0x201D ∷ 0x20 ∷ []) ∷ []) ≡ true ∷ true ∷ true ∷ []
unfolding ends_sentence chars encode_utf8
quoted_end = refl

no_quoted_end : map of_sentence (codes "Hi!\"" ∷ codes "Hi!') " ∷ codes "Hi! \" " ∷ []) ≡ false ∷ false ∷ false ∷ []
unfolding ends_sentence chars encode_utf8
no_quoted_end = refl

-- the Arabic question mark and full stop, the danda, and the ellipsis want a space
stops_with_space : map (λ c. of_sentence (c ∷ 0x20 ∷ [])) (0x061F ∷ 0x06D4 ∷ 0x0964 ∷ 0x2026 ∷ []) ≡ true ∷ true ∷ true ∷ true ∷ []
unfolding ends_sentence chars encode_utf8
stops_with_space = refl

stops_alone : map (λ c. of_sentence (c ∷ [])) (0x061F ∷ 0x06D4 ∷ 0x0964 ∷ 0x2026 ∷ []) ≡ false ∷ false ∷ false ∷ false ∷ []
unfolding ends_sentence chars encode_utf8
stops_alone = refl

-- wide stops want none, and may have a closing mark and a space
wide_alone : map (λ c. of_sentence (c ∷ [])) (0x3002 ∷ 0xFF01 ∷ 0xFF0E ∷ 0xFF1F ∷ []) ≡ true ∷ true ∷ true ∷ true ∷ []
unfolding ends_sentence chars encode_utf8
wide_alone = refl

wide_quoted : map (λ c. of_sentence (0x3002 ∷ c ∷ [])) (0x300D ∷ 0x300F ∷ 0xFF09 ∷ 0x201D ∷ 0x29 ∷ 0x20 ∷ []) ≡ true ∷ true ∷ true ∷ true ∷ true ∷ true ∷ []
unfolding ends_sentence chars encode_utf8
wide_quoted = refl

wide_spaced : of_sentence (0x3002 ∷ 0x300D ∷ 0x20 ∷ []) ≡ true
unfolding ends_sentence chars encode_utf8
wide_spaced = refl

-- one closing mark and one space at most, in this order
no_wide_end : map of_sentence ((0x3002 ∷ 0x300D ∷ 0x300F ∷ []) ∷ (0x3002 ∷ 0x20 ∷ 0x20 ∷ []) ∷ (0x3002 ∷ 0x20 ∷ 0x300D ∷ []) ∷ (0x2E ∷ 0x300D ∷ 0x20 ∷ []) ∷ []) ≡ false ∷ false ∷ false ∷ false ∷ []
unfolding ends_sentence chars encode_utf8
no_wide_end = refl

line_end : ends_line (97 ∷ 0xE2 ∷ 0x80 ∷ 0xA8 ∷ []) ≡ true
unfolding ends_line chars encode_utf8
line_end = refl

no_line_end : ends_line [] ≡ false
unfolding ends_line chars encode_utf8
no_line_end = refl

-- a bell behind a letter leaves the line open, and one behind a new line does not open it
open_line : is_open_after false (97 ∷ 7 ∷ []) ≡ true
unfolding class_of
open_line = refl

closed_line : is_open_after true (10 ∷ 7 ∷ 0xFEFF ∷ []) ≡ false
unfolding class_of
closed_line = refl

label_of_bob : label (codes "Bob") ≡ codes "[Bob] "
unfolding label
label_of_bob = refl

label_of_cy : label_after true (codes "Cy") ≡ 0xE2 ∷ 0x80 ∷ 0xA8 ∷ codes "[Cy] "
unfolding label label_after encode_utf8
label_of_cy = refl
