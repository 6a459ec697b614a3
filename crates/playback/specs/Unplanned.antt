-- Terminals of which a plan does not speak.
use Rattle.std.specs.Prelude.{◌≢◌, ℕ, List}
use Rattle.file_spec.specs.declared.conference_lines.PlanLine.{PlanLine}
use Rattle.stream_spec.specs.Lists.{In}

-- no line is of the terminal t
abbrev pub IsUnplanned : List PlanLine → ℕ → Type 0
IsUnplanned plan t = (l : PlanLine) → In l plan → l.terminal ≢ t
