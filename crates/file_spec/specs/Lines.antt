-- The lines of a file and their words (profile). A line ends with LF, and a CR right before the LF is no part of it; the last line need not end.
use Rattle.std.specs.Prelude.{ℕ, ◌+◌, ◌==◌, Bool, true, not, List, [], ◌∷◌, length, filter, Result, Ok, Err}
use Rattle.std.specs.List.{slice_split}
use Rattle.std.specs.Str.{byte}
use Rattle.file_spec.specs.declared.kinds.ConfKind.{ConfKind}
use Rattle.rtt_base.specs.Steps.{◌>>=◌}

-- a line and its number in the file
pub record Line : Type 0 where
  pub number : ℕ
  pub octets : List ℕ

abbrev pub numbered : ℕ → List (List ℕ) → List Line
numbered n [] = []
numbered n (octets ∷ more) = record { number = n; octets = octets } ∷ numbered (n + 1) more

-- the lines that are not passed over, the first of them all having this number
abbrev pub told : (List ℕ → Bool) → ℕ → List (List ℕ) → List Line
told is_passed_over n octets = filter (λ l. not (is_passed_over l.octets)) (numbered n octets)

-- an empty line, or one that begins with `#`
abbrev pub is_comment : List ℕ → Bool
is_comment [] = true
is_comment (c ∷ _) = c == byte "#"

-- what stands between spaces, one or more
abbrev pub words : List ℕ → List (List ℕ)
words octets = filter (λ word. not (length word == 0)) (slice_split (λ c. c == byte " ") octets)

-- the first bad line, and why
pub record Refusal : Type 0 where
  pub line : ℕ
  pub kind : ConfKind

abbrev pub at_line : {A : Type 0} → ℕ → Result A ConfKind → Result A Refusal
at_line n (Ok x) = Ok x
at_line n (Err kind) = Err (record { line = n; kind = kind })

-- line after line, each read against what the lines above say, up to the first bad one
abbrev pub read_lines : {S : Type 0} → (S → Line → Result S ConfKind) → S → List Line → Result S Refusal
read_lines read above [] = Ok above
read_lines read above (line ∷ more) = at_line line.number (read above line) >>= λ said. read_lines read said more
