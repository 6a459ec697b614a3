-- What is told of a fault (profile). Each line ends with LF.
use Rattle.std.specs.Prelude.{List, [], ℕ, Ok, Err, codes}
use Rattle.report_spec.specs.Told.{told_name}
use Rattle.command_spec.specs.declared.faults.Fault.{Fault}
use Rattle.command_spec.specs.declared.faults.Fault.TheVariants.{WrongWords, CannotOpen, CannotRead, Refused, CannotPrint, CannotWrite, LinkFailed, NoMemory}
use Rattle.command_spec.specs.Messages.{Ending, refusal_message, trouble}
use Rattle.rtt_words.specs.Help.{usage}

-- what is told of a fault whose file or leg is told of by this name
abbrev pub fault_message : List ℕ → Fault → List ℕ
fault_message name WrongWords = usage
fault_message name (CannotOpen input) = trouble (codes "cannot open ") name
fault_message name (CannotRead input) = trouble (codes "cannot read ") name
fault_message name (Refused input refusal) = refusal_message name refusal
fault_message name CannotPrint = codes "cannot write the output\n"
fault_message name (CannotWrite output) = trouble (codes "cannot write ") name
fault_message name (LinkFailed leg) = trouble (codes "link fault at leg ") name
fault_message name NoMemory = codes "out of memory\n"

-- what is told of how a command ended, where the file or the leg that is told of has this name
abbrev pub message_of : List ℕ → Ending → List ℕ
message_of name (Ok done) = []
message_of name (Err fault) = fault_message (told_name name) fault
