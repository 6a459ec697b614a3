-- What a line of a script in the code means, and what its parts say (profile).
use Rattle.std.specs.Prelude.{◌≡◌, ℕ, ◌==◌, true, false, not, nat_lt, List, [], ◌∷◌, ◌++◌, All, Result, Ok, Err}
use Rattle.std.specs.Str.{is_utf8}
use Rattle.std.specs.Option.{ok_or}
use Rattle.rtt_base.specs.Steps.{◌>>=◌}
use Rattle.file_spec.specs.Steps.{unless}
use Rattle.file_spec.specs.Numbers.{number}
use Rattle.file_spec.specs.Script as spec
use Rattle.file_spec.specs.Script.{around_space, typed}
use Rattle.file_spec.specs.declared.kinds.ConfKind.{ConfKind}
use Rattle.file_spec.specs.declared.kinds.ConfKind.TheVariants.{NotText, Count, Number, Order}
use Rattle.file_spec.specs.declared.limits.TheConstants.{LAST_MOMENT}
use Rattle.script_text.specs.declared.script_lines.ScriptLine.{ScriptLine}
use Rattle.script_text.specs.declared.heads.Head.{Head}
use Rattle.script_text.specs.declared.line_facts.KnownLines.{KnownLines}

abbrev pub line_of : ScriptLine → spec.ScriptLine
line_of l = record { line = l.line; at = l.at; text = l.text.now }

-- what the octets of a line say of when it is typed, and the octets behind the space
abbrev pub moment_said : List ℕ → Result (ℕ × List ℕ) ConfKind
moment_said octets = do
  parts ← ok_or (around_space octets) Count
  moment ← ok_or (number LAST_MOMENT parts.0) Number
  Ok (moment, parts.1)

-- the same where they are text, and the latest line above is typed at this moment
abbrev pub head_said : ℕ → List ℕ → Result (ℕ × List ℕ) ConfKind
head_said latest octets = do
  text ← unless (not (is_utf8 octets)) NotText octets
  head ← moment_said text
  at ← unless (nat_lt head.0 latest) Order head.0
  Ok (at, head.1)

-- the same of a head in the code
abbrev pub head_octets : Result Head ConfKind → Result (ℕ × List ℕ) ConfKind
head_octets (Ok head) = Ok (head.at, head.octets.now)
head_octets (Err kind) = Err kind

-- these lines and one more, of this number, whose text is read from the octets of this head
abbrev pub with_typed : List spec.ScriptLine → ℕ → Head → Result (List spec.ScriptLine) ConfKind
with_typed above n head = typed head.octets.now >>= λ text. Ok (above ++ record { line = n; at = head.at; text = text } ∷ [])

-- no backslash stands there
abbrev pub IsPlain : List ℕ → Type 0
IsPlain octets = All (λ c. (c == 92) ≡ false) octets

-- what is known holds of this line
pub record IsKnown (known : KnownLines) (line : List ℕ) : Type 0 where
  pub text : known.text ≡ true → is_utf8 line ≡ true
  pub plain : known.plain ≡ true → IsPlain line

-- it holds of each of these lines
pub record AreKnown (known : KnownLines) (lines : List (List ℕ)) : Type 0 where
  pub text : known.text ≡ true → All (λ l. is_utf8 l ≡ true) lines
  pub plain : known.plain ≡ true → All (λ l. IsPlain l) lines
