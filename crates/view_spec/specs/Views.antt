-- What is printed of a terminal (profile). Each line ends with LF.
use Rattle.std.specs.Prelude.{ℕ, List, [], ◌∷◌, ◌++◌, flat_map, codes, decimal}
use Rattle.view_spec.specs.Shown.{Display}
use Rattle.view_spec.specs.declared.counts.Counts.{Counts}

-- a line of print
abbrev pub printed_line : List ℕ → List ℕ
printed_line line = line ++ 0x0A ∷ []

-- a line for each shown line, with something before it
abbrev pub printed_lines : List ℕ → List (List ℕ) → List ℕ
printed_lines before lines = flat_map (λ line. printed_line (before ++ line)) lines

unfoldable pub counts_line : Counts → List ℕ
counts_line c = printed_line (codes "-- packets " ++ decimal c.packets ++ codes " used " ++ decimal c.used
    ++ codes " refused " ++ decimal c.refused ++ codes " foreign " ++ decimal c.foreign)

-- one text, as `read` prints it
unfoldable pub text_view : Display → Counts → List ℕ
text_view d c = printed_lines (codes "| ") d.lines
    ++ printed_line (codes "-- bells " ++ decimal d.bells)
    ++ counts_line c

-- a source and what it shows
pub record Source : Type 0 where
  pub name : List ℕ
  pub display : Display

unfoldable pub source_view : Source → List ℕ
source_view s = printed_lines (s.name ++ codes ": ") s.display.lines
    ++ printed_line (codes "-- " ++ s.name ++ codes " bells " ++ decimal s.display.bells)

-- the first line of a terminal's view, which says whether it keeps its sources apart
unfoldable pub aware_title : List ℕ → List ℕ
aware_title name = printed_line (codes "== " ++ name ++ codes " aware")

unfoldable pub unaware_title : List ℕ → List ℕ
unaware_title name = printed_line (codes "== " ++ name ++ codes " unaware")

-- a terminal that keeps its sources apart
unfoldable pub aware_view : List ℕ → List Source → Counts → List ℕ
aware_view name sources c = aware_title name ++ flat_map source_view sources ++ counts_line c

-- a terminal that gets one text
unfoldable pub unaware_view : List ℕ → Display → Counts → List ℕ
unaware_view name d c = unaware_title name ++ text_view d c
