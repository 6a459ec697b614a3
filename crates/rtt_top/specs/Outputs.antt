-- Files that are made for the legs of a conference, and what comes of them where one fails.
use Rattle.std.specs.Prelude.{◌⊎◌, ℕ, List}
use Rattle.command_spec.specs.declared.faults.Fault.{Fault}
use Rattle.command_spec.specs.declared.faults.Fault.TheVariants.{WrongWords, CannotOpen, CannotRead, Refused, CannotPrint, CannotWrite, LinkFailed, NoMemory}
use Rattle.command_spec.specs.Work.{Contents, Made, IsNth}
use Rattle.rtt_top.specs.Runs.{PartlyStored}

-- One of the files could not be written: those before it are whole, and those behind it as before.
abbrev pub IsUnwritten : (WorldTells : Type 0) → (Call Object : List ℕ → Type 0) → List Made → Contents
    → Contents → Fault → Type 0
IsUnwritten WorldTells Call Object files old new WrongWords = ⊥
IsUnwritten WorldTells Call Object files old new (CannotOpen input) = ⊥
IsUnwritten WorldTells Call Object files old new (CannotRead input) = ⊥
IsUnwritten WorldTells Call Object files old new (Refused input refusal) = ⊥
IsUnwritten WorldTells Call Object files old new CannotPrint = ⊥
IsUnwritten WorldTells Call Object files old new (CannotWrite output) =
    (name : List ℕ) × IsNth files output name × (Call name ⊎ Object name) × (WorldTells → PartlyStored Call Object output files old new)
IsUnwritten WorldTells Call Object files old new (LinkFailed leg) = ⊥
IsUnwritten WorldTells Call Object files old new NoMemory = ⊥
