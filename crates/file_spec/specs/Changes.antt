-- What changes of a leg.
use Rattle.std.specs.Prelude.{ℕ, List}
use Rattle.file_spec.specs.declared.conference_lines.LegLine.{LegLine}

abbrev pub with_name : List ℕ → LegLine → LegLine
with_name name leg = record leg { name = name }
