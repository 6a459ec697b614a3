-- Texts that stand one behind the other in one list of octets.
use Rattle.std.specs.Prelude.{ℕ, ◌-◌, ◌≤◌, List, length, take, drop, map, All}
use Rattle.file_spec.specs.Script.{ScriptLine}
use Rattle.script_text.specs.declared.spans.Span.{Span}

-- the line whose text stands there
abbrev pub line_in : List ℕ → Span → ScriptLine
line_in texts s = record { line = s.line; at = s.at; text = take (s.to - s.from) (drop s.from texts) }

abbrev pub lines_in : List ℕ → List Span → List ScriptLine
lines_in texts spans = map (λ s. line_in texts s) spans

-- the text stands within these octets
pub record IsWithin (texts : List ℕ) (s : Span) : Type 0 where
  pub from : s.from ≤ s.to
  pub to : s.to ≤ length texts

abbrev pub AreWithin : List ℕ → List Span → Type 0
AreWithin texts spans = All (λ s. IsWithin texts s) spans
