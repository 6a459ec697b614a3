-- The label before a speaker's text (profile).
use Rattle.std.specs.Prelude.{ℕ, Bool, not, ◌||◌, ◌&&◌, ◌==◌, nat_le, if◌then◌else◌, List, ◌++◌, filter, codes, encode_utf8}

-- the label before a speaker's text
unfoldable pub label : List ℕ → List ℕ
label name = codes "[" ++ name ++ codes "] "

-- the label on a line of its own: behind U+2028 where a line is open
unfoldable pub label_after : Bool → List ℕ → List ℕ
label_after is_open name = if is_open then encode_utf8 0x2028 ++ label name else label name

-- `[` and `]`, and their full-width forms: where text runs from right to left each is laid out as the other
abbrev pub is_bracket : ℕ → Bool
is_bracket c = c == 0x5B || c == 0x5D || c == 0xFF3B || c == 0xFF3D

-- No speaker types a label: of what is typed, a bracket becomes a parenthesis, and a full-width one that of its width.
abbrev pub without_bracket : ℕ → ℕ
without_bracket c =
    if c == 0x5B then 0x28 else (
    if c == 0x5D then 0x29 else (
    if c == 0xFF3B then 0xFF08 else (
    if c == 0xFF3D then 0xFF09 else c)))

-- U+202A to U+202E and U+2066 to U+2069: embeddings, overrides and isolates, and their ends (Unicode, annex 9). One that is
-- left open goes on through what follows in its line, a label too.
abbrev pub is_direction : ℕ → Bool
is_direction c = (nat_le 0x202A c && nat_le c 0x202E) || (nat_le 0x2066 c && nat_le c 0x2069)

abbrev pub without_directions : List ℕ → List ℕ
without_directions cs = filter (λ c. not (is_direction c)) cs
