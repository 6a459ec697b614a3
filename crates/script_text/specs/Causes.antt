-- The causes of a refused file (profile): the definition's first bad line, or want of memory, which is free.
use Rattle.std.specs.Prelude.{◌≡◌, ℕ, Result, Err}
use Rattle.file_spec.specs.declared.kinds.ConfKind.{ConfKind}
use Rattle.file_spec.specs.Lines.{Refusal as FirstBad}
use Rattle.script_text.specs.declared.faults.ConfFault.{ConfFault}
use Rattle.script_text.specs.declared.faults.ConfFault.TheVariants.{Refused, NoMemory}

abbrev pub IsCause : {A : Type 0} → ConfFault → Result A FirstBad → Type 0
IsCause (Refused line kind) read = read ≡ Err (record { line = line; kind = kind })
IsCause NoMemory read = Unit {0}

-- the same of one line, whose number the refusal names
abbrev pub IsCauseAt : {A : Type 0} → ℕ → ConfFault → Result A ConfKind → Type 0
IsCauseAt n (Refused line kind) read = (line ≡ n) × (read ≡ Err kind)
IsCauseAt n NoMemory read = Unit {0}
