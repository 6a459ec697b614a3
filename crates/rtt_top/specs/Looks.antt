-- What a look at a file comes to.
use Rattle.std.specs.Prelude.{◌≡◌, ℕ, ◌+◌, Bool, false, List, Option, Some, Result, Ok, Err, option_map}
use Rattle.rtt_io.specs.declared.worlds.World as worlds
use Rattle.rtt_io.specs.Names.{SameBut}
use Rattle.rtt_io.specs.Names as names
use Rattle.file_spec.specs.declared.conference_lines.LegLine.{LegLine}
use Rattle.command_spec.specs.declared.faults.Fault.{Fault}
use Rattle.command_spec.specs.declared.faults.Fault.TheVariants.{WrongWords, CannotOpen, CannotRead, Refused, CannotPrint, CannotWrite, LinkFailed, NoMemory}
use Rattle.command_spec.specs.Messages.{Ending}
use Rattle.command_spec.specs.Outcomes.{Same}
use Rattle.command_spec.specs.Work.{Contents, IsInput, Steps}
use Rattle.report_spec.specs.declared.limits.TheConstants.{MOST_CHECKED_OCTETS}
use Rattle.report_spec.specs.Checking as checking
use Rattle.report_spec.specs.Checking.{report}
use Rattle.report_spec.specs.Inputs.{leg_told}
use Rattle.report_spec.specs.Looks.{legs_in, looks_at, steps_of, told_by}
use Rattle.rtt_check.specs.declared.reports.Report.{Report}
use Rattle.rtt_check.specs.Reports.{as_told, told_of}
use Rattle.rtt_top.specs.Files.{IsReadOf}
use Rattle.rtt_top.specs.Worlds.{ObjectFailedIn, OpenFailedIn}

-- how it ended
abbrev pub ending_of : Result Bool Fault → Ending
ending_of (Ok taken) = Ok tt
ending_of (Err fault) = Err fault

-- its status, where this one was told of its ending: 1 where the program does not take the file
abbrev pub or_found : Result Bool Fault → ℕ → ℕ
or_found (Ok false) told = 1
or_found _ told = told

-- the fault of the input of this number for that of a first input
abbrev pub fault_at : ℕ → Fault → Fault
fault_at input (CannotOpen n) = CannotOpen input
fault_at input (CannotRead n) = CannotRead input
fault_at input fault = fault

-- the input of number n has this name, where those of the steps have the numbers from `first` on
abbrev pub IsInputFrom : (WorldTells : Type 0) → Contents → Steps → ℕ → List ℕ → ℕ → Type 0
IsInputFrom WorldTells held steps first name n = (k : ℕ) × (n ≡ first + k) × IsInput WorldTells held steps k name

-- what lies there, as far as that is told, is looked at as the IN of this leg of the conference that has these octets, and this is told
abbrev pub LooksAt : (WorldTells : Type 0) → Contents → ℕ → List ℕ → LegLine → Option Report → Type 0
LooksAt WorldTells held limit conference leg found = (octets : List ℕ) × (WorldTells → held leg.input ≡ Some octets)
    × (option_map as_told found ≡ leg_told limit conference leg octets)

module _ {W S D P : Type 0} (w : worlds.Ghosts W S D P) where
  -- nothing was changed, and no count rose
  abbrev pub SameIn : W → W → Type 0
  SameIn old new = (w.tells → Same (w.contents old) (w.contents new)) × names.Same w.own_faults old new × names.Same w.object_faults old new

  -- An input of this name could not be read to its end, for such a cause, and no source of another name failed. `Is` says of its number
  -- that it is that.
  abbrev pub IsUnreadWhere : (ℕ → Type 0) → W → W → List ℕ → Fault → Type 0
  IsUnreadWhere Is old new name WrongWords = ⊥
  IsUnreadWhere Is old new name (CannotOpen n) = Is n × OpenFailedIn w old new name
  IsUnreadWhere Is old new name (CannotRead n) = Is n × ObjectFailedIn w old new name × (w.tells → SameBut name w.object_faults old new)
  IsUnreadWhere Is old new name (Refused n refusal) = ⊥
  IsUnreadWhere Is old new name CannotPrint = ⊥
  IsUnreadWhere Is old new name (CannotWrite n) = ⊥
  IsUnreadWhere Is old new name (LinkFailed leg) = ⊥
  IsUnreadWhere Is old new name NoMemory = Unit {0}

  -- so of the input of this number, whatever was before where nothing was changed since
  abbrev pub IsUnreadAt : ℕ → W → W → List ℕ → Fault → Type 0
  IsUnreadAt input old new name fault = (before : W) → SameIn before old
      → IsUnreadWhere (λ n. n ≡ input) before new name fault

  -- so of the IN of one of these legs
  abbrev pub IsUnreadAmong : ℕ → List ℕ → List LegLine → ℕ → W → W → List ℕ → Fault → Type 0
  IsUnreadAmong limit conference legs first old new name fault = (before : W) → SameIn before old
      → (told : checking.Report)
      → IsUnreadWhere (IsInputFrom w.tells (w.contents before) (steps_of (looks_at limit conference legs told)) first name) before new name fault

  -- this is told of the IN of a leg
  abbrev pub LooksAtIn : ℕ → List ℕ → LegLine → W → Option Report → Type 0
  LooksAtIn limit conference leg old found = (before : W) → SameIn before old
      → LooksAt w.tells (w.contents before) limit conference leg found

  -- this is told of those of all these legs, and of the file where there is nothing to tell of them
  abbrev pub LooksAmongIn : ℕ → List ℕ → List LegLine → W → Option Report → Type 0
  LooksAmongIn limit conference legs old found = (before : W) → SameIn before old → w.tells → (told : checking.Report)
      → told_by (w.contents before) (looks_at limit conference legs told) ≡ Some (told_of found told)

  -- these octets were read of the file of this name, of which alone this is told, and these legs are to be looked at
  abbrev pub IsBegunIn : W → List ℕ → List ℕ → checking.Report → List LegLine → Type 0
  IsBegunIn world name octets told legs = (w.tells → IsReadOf MOST_CHECKED_OCTETS (w.contents world name) octets)
      × (told ≡ report name octets) × (legs ≡ legs_in octets)
