-- How a command ends, the program's statuses, and how what is told is spelled (profile). Each line ends with LF.
use Rattle.std.specs.Prelude.{ℕ, List, [], ◌++◌, Result, Ok, Err, codes, decimal}
use Rattle.wire_spec.specs.declared.faults.DumpKind.{DumpKind}
use Rattle.wire_spec.specs.declared.faults.DumpKind.TheVariants.{NotDump, BadLength, EndsInside, TooLong, TooLarge, Read}
use Rattle.file_spec.specs.declared.kinds.ConfKind.{ConfKind}
use Rattle.file_spec.specs.declared.kinds.ConfKind.TheVariants as conference
use Rattle.file_spec.specs.declared.frame_kinds.FrameKind.{FrameKind}
use Rattle.file_spec.specs.declared.frame_kinds.FrameKind.TheVariants as frame
use Rattle.command_spec.specs.declared.faults.Refusal.{Refusal}
use Rattle.command_spec.specs.declared.faults.Refusal.TheVariants.{AtByte, AtFrame, AtLine, AtTrunk, AfterTurns}
use Rattle.command_spec.specs.declared.faults.Fault.{Fault}
use Rattle.command_spec.specs.declared.faults.Fault.TheVariants.{WrongWords, CannotOpen, CannotRead, Refused, CannotPrint, CannotWrite, LinkFailed, NoMemory}
use Rattle.command_spec.specs.Outcomes.{Outcome, Missing, Done, Served}
use Rattle.command_spec.specs.Outcomes as outcomes

-- all was done, or a fault stands in its place
abbrev pub Ending : Type 0
Ending = Result (Unit {0}) Fault

-- how a command ends where nothing outside fails
abbrev pub ending_of : Outcome → Ending
ending_of (Missing input) = Err (CannotOpen input)
ending_of (outcomes.Refused input refusal) = Err (Refused input refusal)
ending_of (Done printed files) = Ok tt
ending_of (Served c) = Ok tt

-- ---- statuses

abbrev pub refusal_status : Refusal → ℕ
refusal_status (AtLine line kind) = 5
refusal_status (AtTrunk line) = 5
refusal_status (AtByte byte kind) = 6
refusal_status (AtFrame byte kind) = 6
refusal_status (AfterTurns turns) = 9

abbrev pub fault_status : Fault → ℕ
fault_status WrongWords = 2
fault_status (CannotOpen input) = 3
fault_status (CannotRead input) = 4
fault_status (Refused input refusal) = refusal_status refusal
fault_status CannotPrint = 7
fault_status (CannotWrite output) = 7
fault_status (LinkFailed leg) = 8
fault_status NoMemory = 70

abbrev pub status_of : Ending → ℕ
status_of (Ok done) = 0
status_of (Err fault) = fault_status fault

-- ---- what is told

abbrev pub dump_kind_name : DumpKind → List ℕ
dump_kind_name NotDump = codes "NotDump"
dump_kind_name BadLength = codes "BadLength"
dump_kind_name EndsInside = codes "EndsInside"
dump_kind_name TooLong = codes "TooLong"
dump_kind_name TooLarge = codes "TooLarge"
dump_kind_name Read = codes "Read"

abbrev pub conf_kind_name : ConfKind → List ℕ
conf_kind_name conference.NotText = codes "NotText"
conf_kind_name conference.Word = codes "Word"
conf_kind_name conference.Count = codes "Count"
conf_kind_name conference.Name = codes "Name"
conf_kind_name conference.Number = codes "Number"
conf_kind_name conference.Many = codes "Many"
conf_kind_name conference.PlanMany = codes "PlanMany"
conf_kind_name conference.Twice = codes "Twice"
conf_kind_name conference.Clash = codes "Clash"
conf_kind_name conference.Crowd = codes "Crowd"
conf_kind_name conference.Few = codes "Few"
conf_kind_name conference.Large = codes "Large"
conf_kind_name conference.Order = codes "Order"
conf_kind_name conference.Escape = codes "Escape"
conf_kind_name conference.Long = codes "Long"
conf_kind_name conference.Full = codes "Full"

abbrev pub frame_kind_name : FrameKind → List ℕ
frame_kind_name frame.Time = codes "Time"
frame_kind_name frame.Length = codes "Length"
frame_kind_name frame.TooLarge = codes "TooLarge"
frame_kind_name frame.NotText = codes "NotText"
frame_kind_name frame.EndsInside = codes "EndsInside"
frame_kind_name frame.Full = codes "Full"
frame_kind_name frame.ManyFrames = codes "ManyFrames"

-- at which byte a file is refused, and the name of the reason
abbrev pub byte_message : List ℕ → ℕ → List ℕ → List ℕ
byte_message name byte why = name ++ codes " byte " ++ (decimal byte ++ codes ": ") ++ (why ++ codes "\n")

-- which line of a file is refused, and the name of the reason
abbrev pub line_message : List ℕ → ℕ → List ℕ → List ℕ
line_message name line why = name ++ codes " line " ++ (decimal line ++ codes ": ") ++ (why ++ codes "\n")

-- a conference that is not over names no file
abbrev pub turns_message : ℕ → List ℕ
turns_message turns = codes "conference too long: " ++ (decimal turns ++ codes " turns\n")

abbrev pub refusal_message : List ℕ → Refusal → List ℕ
refusal_message name (AtByte byte kind) = byte_message name byte (dump_kind_name kind)
refusal_message name (AtFrame byte kind) = byte_message name byte (frame_kind_name kind)
refusal_message name (AtLine line kind) = line_message name line (conf_kind_name kind)
refusal_message name (AtTrunk line) = line_message name line (codes "Trunk")
refusal_message name (AfterTurns turns) = turns_message turns

-- the name of the program and its version
abbrev pub version_line : List ℕ
version_line = codes "rtt_program 0.1.0\n"

-- what went wrong with the file or the leg of this name
abbrev pub trouble : List ℕ → List ℕ → List ℕ
trouble what name = what ++ (name ++ codes "\n")
