-- How a text is shown (T.140; what an erasure takes back is this profile's choice).
use Rattle.std.specs.Prelude.{ℕ, ◌+◌, Bool, false, ◌||◌, ◌&&◌, not, nat_lt, ◌==◌, if◌then◌else◌, List, [], ◌∷◌, ◌++◌, map, length, filter, chars, encode_utf8, encode_utf8_all}
use Rattle.std.specs.List.{list_any, slice_split}
use Rattle.view_spec.specs.Characters.{class_of, is_new_line, is_erasure, is_erasable, is_marker, is_bell}

-- whether an LF comes first
abbrev pub begins_with_lf : List ℕ → Bool
begins_with_lf [] = false
begins_with_lf (c ∷ cs) = c == 0x0A

-- The characters with one LF for each new line: for CR directly followed by LF, for another CR,
-- another LF, U+2028 and U+2029.
abbrev pub signs : List ℕ → List ℕ
signs [] = []
signs (c ∷ cs) =
    if c == 0x0D && begins_with_lf cs then signs cs else (
    if is_new_line c then 0x0A ∷ signs cs else c ∷ signs cs)

-- how many erasures there are, how many signs that an erasure can take back, how many markers, and how many bells
abbrev pub erasures : List ℕ → ℕ
erasures cs = length (filter (λ c. is_erasure (class_of c)) cs)

abbrev pub erasables : List ℕ → ℕ
erasables cs = length (filter (λ c. is_erasable (class_of c)) cs)

abbrev pub marker_count : List ℕ → ℕ
marker_count cs = length (filter (λ c. is_marker (class_of c)) cs)

abbrev pub bells : List ℕ → ℕ
bells cs = length (filter (λ c. is_bell (class_of c)) cs)

-- the fronts of a list, from the empty one to the whole
abbrev pub fronts : List ℕ → List (List ℕ)
fronts [] = [] ∷ []
fronts (c ∷ cs) = [] ∷ map (λ front. c ∷ front) (fronts cs)

-- the signs before the first marker
abbrev pub to_marker : List ℕ → List ℕ
to_marker [] = []
to_marker (c ∷ cs) = if is_marker (class_of c) then [] else c ∷ to_marker cs

-- What follows takes back the sign before it: some front of it, up to the first marker, has more erasures than erasable signs.
abbrev pub takes_back : List ℕ → Bool
takes_back following = list_any (λ front. nat_lt (erasables front) (erasures front)) (fronts (to_marker following))

-- a marker stays, and so does an erasable sign that nothing takes back
abbrev pub stays : ℕ → List ℕ → Bool
stays c following = is_marker (class_of c) || (is_erasable (class_of c) && not (takes_back following))

abbrev pub survivors : List ℕ → List ℕ
survivors [] = []
survivors (c ∷ cs) = if stays c cs then c ∷ survivors cs else survivors cs

-- the lines between the LFs, one more than there are LFs
abbrev pub lines_of : List ℕ → List (List ℕ)
lines_of cs = slice_split (λ c. c == 0x0A) cs

-- what a text in UTF-8 shows: its lines, each in UTF-8, and how often it rings
pub record Display : Type 0 where
  pub lines : List (List ℕ)
  pub bells : ℕ

unfoldable pub shown : List ℕ → Display
shown text = record {
  lines = map encode_utf8_all (lines_of (survivors (signs (chars text))));
  bells = bells (chars text);
}

-- Words of the laws on a text in parts.
-- the lines of one text, and behind the last of them those of another
abbrev pub lines_behind : List (List ℕ) → List (List ℕ) → List (List ℕ)
lines_behind [] after = after
lines_behind (line ∷ []) [] = line ∷ []
lines_behind (line ∷ []) (next ∷ after) = (line ++ next) ∷ after
lines_behind (line ∷ more ∷ lines) after = line ∷ lines_behind (more ∷ lines) after

-- a marker behind the one, and the other behind the marker
abbrev pub with_marker_between : Display → Display → Display
with_marker_between a b = record {
  lines = lines_behind a.lines (lines_behind (encode_utf8 0xFFFD ∷ []) b.lines);
  bells = a.bells + b.bells;
}

-- Words of the laws on one more character.
-- what an erasure leaves: all but the last, and that too where it is a marker
abbrev pub one_back : List ℕ → List ℕ
one_back [] = []
one_back (c ∷ []) = if is_marker (class_of c) then c ∷ [] else []
one_back (c ∷ d ∷ cs) = c ∷ one_back (d ∷ cs)

-- how many of these signs erasures that follow could take back, one by one: those behind the last marker
abbrev pub loose_behind : ℕ → List ℕ → ℕ
loose_behind n [] = n
loose_behind n (c ∷ cs) = loose_behind (if is_marker (class_of c) then 0 else n + 1) cs

abbrev pub loose : List ℕ → ℕ
loose cs = loose_behind 0 cs

-- the last one is CR
abbrev pub ends_with_cr : List ℕ → Bool
ends_with_cr [] = false
ends_with_cr (c ∷ []) = c == 0x0D
ends_with_cr (c ∷ d ∷ cs) = ends_with_cr (d ∷ cs)
