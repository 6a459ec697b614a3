-- Statements on what is printed: it is a script (profile).
use Rattle.std.specs.Prelude.{◌≡◌, ℕ, ◌+◌, ◌≤◌, ◌==◌, ◌||◌, not, Bool, true, false, List, [], ◌∷◌, length, chars, All, Ok}
use Rattle.std.specs.List.{list_all}
use Rattle.stream_spec.specs.Ready.{Chunk}
use Rattle.view_spec.specs.declared.classes.CharClass.{CharClass}
use Rattle.view_spec.specs.declared.classes.CharClass.TheVariants.{Silent}
use Rattle.view_spec.specs.Characters.{class_of}
use Rattle.file_spec.specs.Script.{ScriptLine, script}
use Rattle.file_spec.specs.declared.limits.TheConstants.{LAST_MOMENT, MOST_SCRIPT_OCTETS}
use Rattle.command_spec.specs.declared.requests.ReadRequest.{ReadRequest}
use Rattle.command_spec.specs.Transcripts.{chunks_read, transcript_view}

abbrev pub is_silent_class : CharClass → Bool
is_silent_class Silent = true
is_silent_class _ = false

-- a line of a script can say it: it is neither LF nor CR nor U+2029, which are said as U+2028, nor silent
abbrev pub is_sayable : ℕ → Bool
is_sayable c = not (c == 0x0A || c == 0x0D || c == 0x2029 || is_silent_class (class_of c))

-- a line of a script can say the text, and so late
pub record IsSayable (c : Chunk) : Type 0 where
  pub early : c.ready ≤ LAST_MOMENT
  pub plain : list_all is_sayable (chars c.text) ≡ true

-- the script of these, whose first line has this number
abbrev pub script_lines : ℕ → List Chunk → List ScriptLine
script_lines n [] = []
script_lines n (c ∷ cs) = record { line = n; at = c.ready; text = c.text } ∷ script_lines (n + 1) cs

-- what is printed is read as the script of what was heard, where each text can be said and the script is not too large
abbrev pub IsScript : ReadRequest → List ℕ → Type 0
IsScript r octets = All IsSayable (chunks_read r octets) → length (transcript_view r octets) ≤ MOST_SCRIPT_OCTETS
    → script (transcript_view r octets) ≡ Ok (script_lines 1 (chunks_read r octets))
