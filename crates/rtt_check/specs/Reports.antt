-- A report and a fault in the code, in the words of the definitions.
use Rattle.std.specs.Prelude.{◌≡◌, ℕ, List, [], ◌++◌, Option, None, Some, codes, decimal, option_map}
use Rattle.std.specs.Str.Lines.{lines}
use Rattle.wire_spec.specs.Dump as dumps
use Rattle.rtpdump_io.specs.declared.items.DumpFault.{DumpFault}
use Rattle.command_spec.specs.declared.faults.Refusal.{Refusal}
use Rattle.command_spec.specs.declared.faults.Refusal.TheVariants.{AtByte, AtFrame, AtLine, AtTrunk, AfterTurns}
use Rattle.file_spec.specs.declared.conference_lines.LegLine.{LegLine}
use Rattle.report_spec.specs.Checking as checking
use Rattle.report_spec.specs.Inputs as inputs
use Rattle.rtt_check.specs.declared.reports.Report.{Report}

abbrev pub as_told : Report → checking.Report
as_told r = record { text = r.text; taken = r.taken }

abbrev pub dump_fault : DumpFault → dumps.Fault
dump_fault fault = record { byte = fault.offset; kind = fault.kind }

-- what is told: what was found of an input or a port, or what is told of the file
abbrev pub told_of : Option Report → checking.Report → checking.Report
told_of None told = told
told_of (Some found) told = as_told found

-- where in a file of this name something is refused, the number of a unit, and why
abbrev pub place_message : List ℕ → List ℕ → ℕ → List ℕ → List ℕ
place_message name unit number why = name ++ unit ++ (decimal number ++ codes ": ") ++ (why ++ codes "\n")

-- what is shown of a file with these octets where it is refused: octets at a byte, or a line
abbrev pub shown_of : List ℕ → Refusal → List ℕ
shown_of octets (AtByte byte kind) = checking.shown_at octets byte
shown_of octets (AtFrame byte kind) = checking.shown_at octets byte
shown_of octets (AtLine line kind) = checking.shown (checking.line_at line (lines octets))
shown_of octets (AtTrunk line) = checking.shown (checking.line_at line (lines octets))
shown_of octets (AfterTurns turns) = []

-- this is told of the IN of a leg of the conference with these octets, where it may have so many octets and has these
abbrev pub IsLegTold : ℕ → List ℕ → LegLine → List ℕ → Option Report → Type 0
IsLegTold limit conference leg octets found = option_map as_told found ≡ inputs.leg_told limit conference leg octets
