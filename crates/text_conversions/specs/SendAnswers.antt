-- The causes of a refused script: its first line that is full, or want of memory, which is free.
use Rattle.std.specs.Prelude.{◌≡◌, ℕ, Option, Some}
use Rattle.text_conversions.specs.declared.send_faults.SendFault.{SendFault}
use Rattle.text_conversions.specs.declared.send_faults.SendFault.TheVariants.{Full, NoMemory}

abbrev pub IsCause : SendFault → Option ℕ → Type 0
IsCause (Full line) full = full ≡ Some line
IsCause NoMemory full = Unit {0}
