-- What a run of the program is: how it ends, and what then lies outside (profile). `WorldTells`, `OutTells` and
-- `ErrTells` say that the world, the output and the output of errors tell what they hold.
use Rattle.std.specs.Prelude.{◌≡◌, ◌⊎◌, ◌<◌, ◌≤◌, ℕ, Bool, true, false, Option, None, Some, List, [], ◌∷◌, ◌++◌, take, Ok, Err, suc, zero, map, String, string_bytes}
use Rattle.std.specs.Global.{Global}
use Rattle.rtt_io.specs.Fronts.{TakesFront}
use Rattle.rtt_words.specs.Words.{ReadWords, Command, Read, Mix, Attend, Cascade, Make, Live, Watch, Check, CheckWords, command}
use Rattle.stream_spec.specs.History.{History, Lawful, Come}
use Rattle.command_spec.specs.declared.faults.Refusal.TheVariants.{AtByte, AtFrame, AtLine, AtTrunk, AfterTurns}
use Rattle.command_spec.specs.declared.faults.Fault.TheVariants.{WrongWords, CannotOpen, CannotRead, Refused, CannotPrint, CannotWrite, LinkFailed, NoMemory}
use Rattle.command_spec.specs.Work.{Contents, Made, Work, IsInput, IsOutput, ServesSome}
use Rattle.command_spec.specs.Outcomes.{Outcome, outcome, IsDone, Same, Stores, AllStored}
use Rattle.command_spec.specs.Outcomes as outcomes
use Rattle.command_spec.specs.Bridges.{IsBridged}
use Rattle.command_spec.specs.Attended.{IsAttended}
use Rattle.command_spec.specs.Cascaded.{IsCascaded}
use Rattle.command_spec.specs.Reading.{arrivals_of, history_view}
use Rattle.rtt_words.specs.Tasks.{request_of, work}
use Rattle.command_spec.specs.Messages.{Ending, ending_of, status_of}
use Rattle.report_spec.specs.Checking.{Report}
use Rattle.report_spec.specs.Looks.{look, told_by}
use Rattle.rtt_words.specs.Told.{message_of}
use Rattle.rtt_top.specs.Faults.{NoneBefore, RefusesSo, WhereRead, has_frames, is_live, is_mixed, is_recording}
use Rattle.rtt_top.specs.Files.{IsPartlyStored}
use Rattle.rtt_top.specs.Outside.{Outside, Output, Failed, CallFailed, ObjectFailed, OpenFailed}
use Rattle.rtt_top.specs.Ports.{LegFailed}

-- what these words ask for, if they are in the word table
abbrev pub asked_by : List (String Global) → Option Command
asked_by words = command (map string_bytes words)

-- Commands that need no thread and no network, and wait for nobody, and words that ask for none.
abbrev pub is_plain : Option Command → Bool
is_plain (Some (Mix m)) = false
is_plain (Some (Attend m)) = false
is_plain (Some (Cascade c)) = false
is_plain (Some (Make m)) = false
is_plain (Some (Live m)) = false
is_plain (Some (Watch m)) = false
is_plain (Some (Check c)) = false
is_plain _ = true

-- this was printed
abbrev pub Prints : List ℕ → Outside → Outside → Type 0
Prints octets old new = new.out.octets ≡ old.out.octets ++ octets

-- a front of this was printed
abbrev pub PrintsFront : List ℕ → Outside → Outside → Type 0
PrintsFront octets old new = (n : ℕ) × Prints (take n octets) old new

-- nothing was printed, and no file was changed
abbrev pub Unchanged : (WorldTells OutTells : Type 0) → Outside → Outside → Type 0
Unchanged WorldTells OutTells old new =
    (OutTells → new.out.octets ≡ old.out.octets) × (WorldTells → Same old.contents new.contents)

-- Of the files that are made those before number n are whole. That one is as before where it could not be created, and
-- a front of it is there where its sink failed. Those behind it, and all others, are as before.
abbrev pub PartlyStored : (Call Object : List ℕ → Type 0) → ℕ → List Made → Contents → Contents → Type 0
PartlyStored Call Object n [] old new = ⊥
PartlyStored Call Object zero (file ∷ more) old new =
    IsPartlyStored (Call file.name) (Object file.name) file old new
PartlyStored Call Object (suc n) (file ∷ more) old new =
    (between : Contents) × Stores file old between × PartlyStored Call Object n more between new

-- the count of a call or of an object of this name rose
abbrev pub FailedAt : Outside → Outside → List ℕ → Type 0
FailedAt old new name = CallFailed old new name ⊎ ObjectFailed old new name

-- what a command comes to where nothing outside fails
abbrev pub outcome_of : Command → Outside → Outcome
outcome_of c old = outcome old.contents (work c).steps

-- the input, and the output, of this number have this name, as far as the world tells
abbrev pub IsInputOf : Command → (WorldTells : Type 0) → Outside → ℕ → List ℕ → Type 0
IsInputOf c WorldTells old input name = IsInput WorldTells old.contents (work c).steps input name

abbrev pub IsOutputOf : Command → (WorldTells : Type 0) → Outside → ℕ → List ℕ → Type 0
IsOutputOf c WorldTells old output name = IsOutput WorldTells old.contents (work c).steps output name

-- all files are made, and this holds of what is printed
abbrev pub IsAllMade : Command → (WorldTells : Type 0) → Outside → Outside → (List ℕ → Type 0) → Type 0
IsAllMade c WorldTells old new Printed = WhereRead (work c).steps WorldTells
    → IsDone (outcome_of c old) (λ printed files. (WorldTells → AllStored files old.contents new.contents) × Printed printed)

-- the files before this number are made, and a front of that one
abbrev pub IsPartlyMade : Command → Outside → Outside → ℕ → Type 0
IsPartlyMade c old new output = IsDone (outcome_of c old) (λ printed files.
    PartlyStored (CallFailed old new) (ObjectFailed old new) output files old.contents new.contents)

-- no source and no sink failed: each name has its old count
abbrev pub NoneFailed : Outside → Outside → Type 0
NoneFailed old new = (name : List ℕ) → new.objects name ≡ old.objects name

-- no source of an input before this number failed, but for names that this or a later input has too
abbrev pub NoneFailedBefore : ℕ → Command → (WorldTells : Type 0) → Outside → Outside → Type 0
NoneFailedBefore input c WorldTells old new = (n : ℕ) (name : List ℕ) → n < input → IsInputOf c WorldTells old n name
    → ((later : ℕ) → input ≤ later → IsInputOf c WorldTells old later name → ⊥) → new.objects name ≡ old.objects name

-- a live call is served, and the link of its leg of this number and name failed
abbrev pub LinkFailedAt : Work → (WorldTells : Type 0) → Outside → Outside → ℕ → List ℕ → Type 0
LinkFailedAt w WorldTells old new leg name =
    ServesSome WorldTells old.contents w.steps (λ conference. LegFailed conference leg name old.links new.links)

-- How a command may end, where the file or the leg that is told of has this name, in the order of the statuses: 0, 2, 3, 4, 5, 6, 7
-- (of the output, then of a file), 9, 8 and 70.
abbrev pub Ends : Command → (WorldTells OutTells : Type 0) → Outside → Outside → List ℕ → Ending → Type 0
Ends c WorldTells OutTells old new name (Ok done) =
    IsAllMade c WorldTells old new (λ printed. OutTells → Prints printed old new)
Ends c WorldTells OutTells old new name (Err WrongWords) = ⊥
Ends c WorldTells OutTells old new name (Err (CannotOpen input)) = IsInputOf c WorldTells old input name
    × OpenFailed WorldTells old new name
    × Unchanged WorldTells OutTells old new
Ends c WorldTells OutTells old new name (Err (CannotRead input)) = IsInputOf c WorldTells old input name
    × ObjectFailed old new name
    × (WorldTells → NoneBefore input (outcome_of c old) × NoneFailedBefore input c WorldTells old new)
    × Unchanged WorldTells OutTells old new
Ends c WorldTells OutTells old new name (Err (Refused input (AtLine line kind))) = IsInputOf c WorldTells old input name
    × RefusesSo WorldTells old.contents (work c).steps input (AtLine line kind)
    × Unchanged WorldTells OutTells old new
Ends c WorldTells OutTells old new name (Err (Refused input (AtTrunk line))) = IsInputOf c WorldTells old input name
    × RefusesSo WorldTells old.contents (work c).steps input (AtTrunk line)
    × Unchanged WorldTells OutTells old new
Ends c WorldTells OutTells old new name (Err (Refused input (AtByte byte kind))) = IsInputOf c WorldTells old input name
    × (is_recording c input ≡ true)
    × (WorldTells → (outcome_of c old ≡ outcomes.Refused input (AtByte byte kind)) × NoneFailedBefore input c WorldTells old new)
    × Unchanged WorldTells OutTells old new
Ends c WorldTells OutTells old new name (Err (Refused input (AtFrame byte kind))) = IsInputOf c WorldTells old input name
    × (has_frames c ≡ true)
    × (WorldTells → (outcome_of c old ≡ outcomes.Refused input (AtFrame byte kind)) × NoneFailedBefore input c WorldTells old new)
    × Unchanged WorldTells OutTells old new
Ends c WorldTells OutTells old new name (Err CannotPrint) = ((work c).prints ≡ true)
    × Failed old.out new.out
    × IsAllMade c WorldTells old new (λ printed. OutTells → PrintsFront printed old new)
Ends c WorldTells OutTells old new name (Err (CannotWrite output)) = IsOutputOf c WorldTells old output name
    × FailedAt old new name
    × (OutTells → new.out.octets ≡ old.out.octets)
    × (WorldTells → IsPartlyMade c old new output)
Ends c WorldTells OutTells old new name (Err (Refused input (AfterTurns turns))) = (input ≡ 0)
    × (is_mixed c ≡ true)
    × (WhereRead (work c).steps WorldTells → outcome_of c old ≡ outcomes.Refused input (AfterTurns turns))
    × NoneFailed old new
    × Unchanged WorldTells OutTells old new
Ends c WorldTells OutTells old new name (Err (LinkFailed leg)) = (is_live c ≡ true)
    × LinkFailedAt (work c) WorldTells old new leg name
    × Unchanged WorldTells OutTells old new
Ends c WorldTells OutTells old new name (Err NoMemory) = Unchanged WorldTells OutTells old new

-- no count rose at a name or a link that the command uses, nor, where it prints, that of the output
pub record IsCalm (w : Work) (WorldTells : Type 0) (old new : Outside) : Type 0 where
  pub inputs : (n : ℕ) (name : List ℕ) → IsInput WorldTells old.contents w.steps n name → FailedAt old new name → ⊥
  pub outputs : (n : ℕ) (name : List ℕ) → IsOutput WorldTells old.contents w.steps n name → FailedAt old new name → ⊥
  pub links : (leg : ℕ) (name : List ℕ) → LinkFailedAt w WorldTells old new leg name → ⊥
  pub output : w.prints ≡ true → Failed old.out new.out → ⊥

-- it ends as its outcome says, or memory ran out
abbrev pub IsAsWorked : Work → Outside → Ending → Type 0
IsAsWorked w old ending = (ending ≡ ending_of (outcome old.contents w.steps)) ⊎ (ending ≡ Err NoMemory)

-- words outside the word table: 2, or 70 where memory runs out before they are told apart
abbrev pub IsOfWords : Ending → Type 0
IsOfWords ending = (ending ≡ Err WrongWords) ⊎ (ending ≡ Err NoMemory)

-- how a run of what the words ask for may end
abbrev pub RunEnds : Option Command → (WorldTells OutTells : Type 0) → Outside → Outside → List ℕ → Ending → Type 0
RunEnds None WorldTells OutTells old new name ending = IsOfWords ending × Unchanged WorldTells OutTells old new
RunEnds (Some c) WorldTells OutTells old new name ending = Ends c WorldTells OutTells old new name ending

-- 0 where a file is taken, else 1
abbrev pub found_status : Bool → ℕ
found_status true = 0
found_status false = 1

-- the status says whether the file is taken that lies there, by what lies in files, as far as that is told
pub record IsFound (w : CheckWords) (WorldTells : Type 0) (held : Contents) (status : ℕ) : Type 0 where
  pub taken : Bool
  pub is_status : status ≡ found_status taken
  pub is_taken : WorldTells → (told : Report) → told_by held (look w.file) ≡ Some told → taken ≡ told.taken

-- the status is that of the ending; where `check` has looked at a file, that of what was found
abbrev pub HasStatus : Option Command → (WorldTells : Type 0) → Contents → Ending → ℕ → Type 0
HasStatus (Some (Check w)) WorldTells held (Ok done) status = IsFound w WorldTells held status
HasStatus words WorldTells held ending status = status ≡ status_of ending

-- a recording that is read, whose packets are those of a history, and the view of that history
pub record IsViewOf (h : History) (words : Option Command) (held : Contents) (view : List ℕ) : Type 0 where
  pub request : ReadWords
  pub octets : List ℕ
  pub reads : words ≡ Some (Read request)
  pub lies : held request.file ≡ Some octets
  pub come : Come h (arrivals_of (request_of request) octets)
  pub view_is : view ≡ history_view h (request_of request) octets

-- What lay in files, what lies there then, and what was printed are as this says.
pub record IsMadeOf (Says : Contents → Contents → List ℕ → Type 0) (OutTells : Type 0) (old new : Outside) : Type 0 where
  pub printed : List ℕ
  pub prints : OutTells → Prints printed old new
  pub made : Says old.contents new.contents printed

-- What a command makes of a conference is bridged: the headline, from its files to what lies there then and what was printed. With
-- `attend` it is so under the names and leavings that its inputs tell, with `cascade` behind both mixers.
abbrev pub IsMadeBy : Command → (OutTells : Type 0) → Outside → Outside → Type 0
IsMadeBy (Mix m) = IsMadeOf (λ held after. IsBridged held after m.conference)
IsMadeBy (Attend m) = IsMadeOf (λ held after. IsAttended held after m.conference)
IsMadeBy (Cascade w) = IsMadeOf (λ held after. IsCascaded held after w.conference w.file w.ssrc)
IsMadeBy _ = λ OutTells old new. Unit {0}

-- What a run is that ends with this status, where the output of errors was and is such.
pub record Runs (words : Option Command) (WorldTells OutTells ErrTells : Type 0) (old new : Outside) (before after : Output)
    (status : ℕ) : Type 0 where
  pub ending : Ending
  pub name : List ℕ
  pub is_status : HasStatus words WorldTells old.contents ending status
  pub ends : RunEnds words WorldTells OutTells old new name ending
  pub calm : (c : Command) → words ≡ Some c → WhereRead (work c).steps WorldTells
      → IsCalm (work c) WorldTells old new → IsAsWorked (work c) old ending
  pub kept : WorldTells → OutTells → ending ≡ Ok tt → (h : History) → Lawful h → (view : List ℕ)
      → IsViewOf h words old.contents view → Prints view old new
  pub made : WorldTells → ending ≡ Ok tt → (c : Command) → words ≡ Some c → IsMadeBy c OutTells old new
  pub silent : ending ≡ Ok tt → after.octets ≡ before.octets
  pub front : ErrTells → TakesFront before.octets after.octets (message_of name ending)
  pub told : ErrTells → (Failed before after → ⊥) → after.octets ≡ before.octets ++ message_of name ending
