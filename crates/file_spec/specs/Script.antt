-- A script: texts and when they are typed, one to a line (profile).
use Rattle.std.specs.Prelude.{ℕ, ◌==◌, nat_lt, max, not, if◌then◌else◌, List, [], ◌∷◌, ◌++◌, length, Option, None, Some, Result, Ok, Err}
use Rattle.std.specs.List.{position_or_len, before_first, after_first}
use Rattle.std.specs.Option.{option_map, ok_or}
use Rattle.std.specs.Str.{byte, is_utf8}
use Rattle.std.specs.Str.Lines.{lines}
use Rattle.file_spec.specs.declared.kinds.ConfKind.{ConfKind}
use Rattle.file_spec.specs.declared.kinds.ConfKind.TheVariants.{NotText, Count, Number, Order, Escape, Long, Large}
use Rattle.file_spec.specs.declared.limits.TheConstants.{LAST_MOMENT, LONGEST_TEXT, MOST_SCRIPT_OCTETS}
use Rattle.rtt_base.specs.Steps.{◌>>=◌}
use Rattle.file_spec.specs.Steps.{unless}
use Rattle.file_spec.specs.Lines.{Line, Refusal, told, is_comment, read_lines}
use Rattle.file_spec.specs.Numbers.{number}

-- a text and when it is typed, with the number of its line in the file
pub record ScriptLine : Type 0 where
  pub line : ℕ
  pub at : ℕ
  pub text : List ℕ

-- what a backslash and this stand for: U+2028, U+0008, U+0007 or a backslash
abbrev pub escape : ℕ → Option (List ℕ)
escape c =
    if c == byte "n" then Some (226 ∷ 128 ∷ 168 ∷ [])
    else (if c == byte "b" then Some (8 ∷ [])
    else (if c == byte "a" then Some (7 ∷ [])
    else (if c == byte "\\" then Some (byte "\\" ∷ []) else None)))

-- the two, one after the other, if both are there
abbrev pub followed : Option (List ℕ) → Option (List ℕ) → Option (List ℕ)
followed None more = None
followed (Some octets) more = option_map (λ ms. octets ++ ms) more

-- the text with its escapes read, if each backslash begins one
abbrev pub unescaped : List ℕ → Option (List ℕ)
unescaped [] = Some []
unescaped (c ∷ []) = if c == byte "\\" then None else Some (c ∷ [])
unescaped (c ∷ d ∷ more) =
    if c == byte "\\" then followed (escape d) (unescaped more)
    else followed (Some (c ∷ [])) (unescaped (d ∷ more))

-- what a line types: its escapes are read before its length is measured
abbrev pub typed : List ℕ → Result (List ℕ) ConfKind
typed octets = do
  text ← ok_or (unescaped octets) Escape
  unless (nat_lt LONGEST_TEXT (length text)) Long text

-- what stands before the first space and after it
abbrev pub around_space : List ℕ → Option (List ℕ × List ℕ)
around_space octets =
    if nat_lt (position_or_len (λ c. c == byte " ") octets) (length octets)
    then Some (before_first (λ c. c == byte " ") octets, after_first (λ c. c == byte " ") octets)
    else None

-- a line, where the latest line above is typed at this moment
unfoldable pub script_line : ℕ → Line → Result ScriptLine ConfKind
script_line latest line = do
  octets ← unless (not (is_utf8 line.octets)) NotText line.octets
  parts ← ok_or (around_space octets) Count
  moment ← ok_or (number LAST_MOMENT parts.0) Number
  at ← unless (nat_lt moment latest) Order moment
  text ← typed parts.1
  Ok (record { line = line.number; at = at; text = text })

-- the latest moment of lines
abbrev pub latest : List ScriptLine → ℕ
latest [] = 0
latest (l ∷ more) = max l.at (latest more)

-- the lines above and this one
abbrev pub and_line : List ScriptLine → Line → Result (List ScriptLine) ConfKind
and_line above line = script_line (latest above) line >>= λ said. Ok (above ++ said ∷ [])

-- the lines of a script in the file's order, or its first bad line
abbrev pub script : List ℕ → Result (List ScriptLine) Refusal
script octets =
    if nat_lt MOST_SCRIPT_OCTETS (length octets) then Err (record { line = 0; kind = Large })
    else read_lines and_line [] (told is_comment 1 (lines octets))
