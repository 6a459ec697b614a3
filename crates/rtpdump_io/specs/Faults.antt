-- Why a recording was not read to its end.
use Rattle.std.specs.Prelude.{◌≡◌, ℕ, true}
use Rattle.wire_spec.specs.Dump.{Recording}
use Rattle.rtpdump_io.specs.declared.items.RecordingFault.{RecordingFault}
use Rattle.rtpdump_io.specs.declared.items.RecordingFault.TheVariants.{Dump, NoMemory}
use Rattle.rtpdump_io.specs.declared.readers.DumpReader.{DumpReader}
use Rattle.rtpdump_io.specs.Reading.{is_of_source, IsFaultOf, SourceFailed}

-- the source failed
abbrev pub IsSourceFault : RecordingFault → Type 0
IsSourceFault (Dump fault) = is_of_source fault.kind ≡ true
IsSourceFault NoMemory = ⊥

-- the recording has this fault, where it is none of the source
abbrev pub FaultOf : Recording → RecordingFault → Type 0
FaultOf recording (Dump fault) = IsFaultOf recording fault
FaultOf recording NoMemory = Unit {0}

module _ {S : Type 0} where
  -- where it says that the source failed, it did so between these two moments of the reader
  abbrev pub HasCause : (S → ℕ) → DumpReader S → DumpReader S → RecordingFault → Type 0
  HasCause faults old new fault = IsSourceFault fault → SourceFailed faults old new
