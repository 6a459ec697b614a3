-- The faults of a mixing and of a live call, and the names of the files and legs that they are about.
use Rattle.std.specs.Prelude.{◌≡◌, ℕ, zero, suc, ◌+◌, true, Option, None, Some, List, Ok, Err, length}
use Rattle.std.specs.List.{concat}
use Rattle.file_spec.specs.declared.conference_lines.Form.{Form}
use Rattle.file_spec.specs.declared.conference_lines.Form.TheVariants.{Files}
use Rattle.file_spec.specs.declared.conference_lines.LegLine.{LegLine}
use Rattle.file_spec.specs.Conference.{Conference, conference_from}
use Rattle.mixer_spec.specs.Setups.{leg_at}
use Rattle.file_spec.specs.Lines as lines
use Rattle.command_spec.specs.declared.faults.Refusal.TheVariants.{AtLine, AfterTurns}
use Rattle.command_spec.specs.declared.faults.Fault.{Fault}
use Rattle.command_spec.specs.declared.faults.Fault.TheVariants.{WrongWords, CannotOpen, CannotRead, Refused, CannotPrint, CannotWrite, LinkFailed, NoMemory}
use Rattle.command_spec.specs.Messages.{Ending}
use Rattle.rtt_words.specs.Words.{Cascade, Command, Live}
use Rattle.command_spec.specs.Work.{Contents, IsInput, IsOutput, Made, Makes, Reads, Refuses, Steps}
use Rattle.rtt_words.specs.Tasks.{work}
use Rattle.command_spec.specs.Outcomes.{Done, outcome, outcome_from}
use Rattle.command_spec.specs.Inputs.{AllLie, LieBelow, inputs_under}
use Rattle.command_spec.specs.Mixing.{counted, mixes_counted}
use Rattle.rtt_mix.specs.declared.results.Mixed.{Mixed}
use Rattle.sent_log.specs.Files.{recordings_of}
use Rattle.rtt_mix.specs.Mixes.{outputs_of, steps_of}
use Rattle.rtt_top.specs.Faults.{WhereRead, fault_of_dump, is_mixed, is_recording}
use Rattle.rtt_io.specs.declared.sinks.Sink as sinks
use Rattle.rtt_io.specs.declared.worlds.World as worlds
use Rattle.rtt_top.specs.Across.{EndsAcross}
use Rattle.rtt_mix.specs.declared.results.MixFault.{MixFault}
use Rattle.rtt_mix.specs.declared.results.MixFault.TheVariants.{Open, Dump, TooLong}
use Rattle.rtt_mix.specs.declared.results.MixFault.TheVariants as mix
use Rattle.cascade.specs.declared.faults.CascadeFault.{CascadeFault}
use Rattle.cascade.specs.declared.faults.CascadeFault.TheVariants as behind
use Rattle.cascade.specs.Inputs as behind_inputs
use Rattle.rtt_live.specs.declared.faults.LiveFault.{LiveFault}
use Rattle.rtt_live.specs.declared.faults.LiveFault.TheVariants as live

-- The fault of a command for that of a mixing of at most so many turns. The conference is the first input, and the recording of leg k
-- is the one of number k + 1.
abbrev pub fault_of_mixing : ℕ → MixFault → Fault
fault_of_mixing turns (Open leg) = CannotOpen (leg + 1)
fault_of_mixing turns (Dump leg fault) = fault_of_dump (leg + 1) fault
fault_of_mixing turns TooLong = Refused 0 (AfterTurns turns)
fault_of_mixing turns mix.NoMemory = NoMemory

-- the same for that of a conference behind another mixer, whose inputs are numbered as the command's
abbrev pub fault_of_cascade : ℕ → CascadeFault → Fault
fault_of_cascade turns (behind.Open input) = CannotOpen input
fault_of_cascade turns (behind.Dump input fault) = fault_of_dump input fault
fault_of_cascade turns behind.TooLong = Refused 0 (AfterTurns turns)
fault_of_cascade turns behind.NoMemory = NoMemory

-- the fault of a command for that of a live call
abbrev pub fault_of_live : LiveFault → Fault
fault_of_live (live.Link leg) = LinkFailed leg
fault_of_live live.NoMemory = NoMemory

-- ---- names
abbrev pub input_of : List ℕ → Option LegLine → List ℕ
input_of file None = file
input_of file (Some leg) = leg.input

abbrev pub output_of : List ℕ → Option LegLine → List ℕ
output_of file None = file
output_of file (Some leg) = leg.output

abbrev pub name_of : List ℕ → Option LegLine → List ℕ
name_of file None = file
name_of file (Some leg) = leg.name

-- the name of the input of this number
abbrev pub input_name : List ℕ → List LegLine → ℕ → List ℕ
input_name file legs zero = file
input_name file legs (suc k) = input_of file (leg_at legs k)

-- the name of the file or the leg of a fault
abbrev pub fault_name : List ℕ → List LegLine → Fault → List ℕ
fault_name file legs WrongWords = file
fault_name file legs (CannotOpen input) = input_name file legs input
fault_name file legs (CannotRead input) = input_name file legs input
fault_name file legs (Refused input refusal) = input_name file legs input
fault_name file legs CannotPrint = file
fault_name file legs (CannotWrite output) = output_of file (leg_at legs output)
fault_name file legs (LinkFailed leg) = name_of file (leg_at legs leg)
fault_name file legs NoMemory = file

abbrev pub ending_name : List ℕ → List LegLine → Ending → List ℕ
ending_name file legs (Ok done) = file
ending_name file legs (Err fault) = fault_name file legs fault

-- ---- names behind another mixer
-- the name of the input of this number: the conference, the recording of what that mixer sent, or the input of a leg of its own
abbrev pub input_behind : List ℕ → List ℕ → List LegLine → ℕ → List ℕ
input_behind conference file legs zero = conference
input_behind conference file legs (suc n) = behind_inputs.input_name file legs (suc n)

abbrev pub ending_behind : List ℕ → List ℕ → List LegLine → Ending → List ℕ
ending_behind conference file legs (Err (CannotOpen input)) = input_behind conference file legs input
ending_behind conference file legs (Err (CannotRead input)) = input_behind conference file legs input
ending_behind conference file legs (Err (Refused input refusal)) = input_behind conference file legs input
ending_behind conference file legs ending = ending_name conference legs ending

-- ---- what a command does with a conference
-- It reads the file of this name first, whose form is this, and refuses what is no conference there.
pub record AsksConference (form : Form) (file : List ℕ) (c : Command) : Type 0 where
  pub next : List ℕ → Steps
  pub steps : (work c).steps ≡ Reads file next
  pub refuses : (octets : List ℕ) (refusal : lines.Refusal) → conference_from form octets ≡ Err refusal
      → next octets ≡ Refuses 0 (AtLine refusal.line refusal.kind)

-- what a mixing of the conference comes to by what lies in files, with what is counted where it asks for that
abbrev pub steps_counted : Contents → Conference → Steps
steps_counted held c = mixes_counted c (inputs_under held c.legs)

-- By what lies in files, it comes to the mixing of this conference: its file is the first input, and then the input of each leg is
-- one. Nothing has to be known of these for its outputs, which are those of the legs.
pub record ComesToMixing (WorldTells : Type 0) (held : Contents) (command : Command) (c : Conference) : Type 0 where
  pub reads : WhereRead (work command).steps WorldTells → WorldTells
  pub prints : (work command).prints ≡ true
  pub mixed : is_mixed command ≡ true
  pub recordings : (k : ℕ) → is_recording command (suc k) ≡ true
  pub input : (k : ℕ) (leg : LegLine) → leg_at c.legs k ≡ Some leg → (WorldTells → LieBelow k held c.legs)
      → IsInput WorldTells held (work command).steps (suc k) leg.input
  pub output : (WorldTells → AllLie held c.legs)
      → (WorldTells → (printed : List ℕ) × (files : List Made) × (steps_of held c ≡ Makes printed files))
      → (n : ℕ) (leg : LegLine) → leg_at c.legs n ≡ Some leg
      → IsOutput WorldTells held (work command).steps n leg.output
  pub comes : WorldTells → AllLie held c.legs
      → outcome held (work command).steps ≡ outcome_from (length c.legs + 1) held (steps_counted held c)

-- By what lies in files, a command makes these outputs of legs, and prints this.
pub record MakesOutputs (WorldTells : Type 0) (held : Contents) (command : Command) (legs : List LegLine) (printed : List ℕ) (files : List Made) : Type 0 where
  pub reads : WhereRead (work command).steps WorldTells → WorldTells
  pub prints : (work command).prints ≡ true
  pub output : (n : ℕ) (leg : LegLine) → leg_at legs n ≡ Some leg
      → IsOutput WorldTells held (work command).steps n leg.output
  pub comes : WorldTells → outcome held (work command).steps ≡ Done printed files

-- a live call of it is served
abbrev pub serving_of : List ℕ → Command
serving_of file = Live (record { conference = file })

-- the name that is told of an ending is that of the output of a leg, where it can't be written
abbrev pub NamesOutputs : List LegLine → (Ending → List ℕ) → Type 0
NamesOutputs legs name = (n : ℕ) (leg : LegLine) → leg_at legs n ≡ Some leg → name (Err (CannotWrite n)) ≡ leg.output

module _ {W S D P K : Type 0} (w : worlds.Ghosts W S D P) (k : sinks.Ghosts K) where
  -- Any command that makes these outputs ends so, however its files are named.
  abbrev pub OutputsEnd : W → K → W → K → List LegLine → Mixed → Ending → Type 0
  OutputsEnd old out new out_then legs mixed ending =
      (command : Command) (name : Ending → List ℕ) → NamesOutputs legs name
      → MakesOutputs w.tells (w.contents old) command legs (concat mixed.views.items) (outputs_of legs (recordings_of mixed.outs))
      → EndsAcross w k command old out new out_then (name ending) ending

  -- Any command that comes to the mixing of this conference ends so, where its file has any name.
  abbrev pub MixingEnds : W → K → W → K → Conference → Ending → Type 0
  MixingEnds old out new out_then c ending =
      (file : List ℕ) (command : Command) → ComesToMixing w.tells (w.contents old) command c
      → EndsAcross w k command old out new out_then (ending_name file c.legs ending) ending

  -- So it ends where this is what is counted of it.
  abbrev pub MixingEndsWith : W → K → W → K → Conference → List ℕ → Ending → Type 0
  MixingEndsWith old out new out_then c lines ending =
      (w.tells → lines ≡ counted c (inputs_under (w.contents old) c.legs)) → MixingEnds old out new out_then c ending

  -- `cascade` ends so where the file of any name has this conference, behind a mixer of this SSRC, which is recorded in this file.
  abbrev pub CascadingEnds : W → K → W → K → List ℕ → ℕ → Conference → Ending → Type 0
  CascadingEnds old out new out_then file ssrc c ending =
      (conference octets : List ℕ) → (w.tells → w.contents old conference ≡ Some octets)
      → conference_from Files octets ≡ Ok c
      → EndsAcross w k (Cascade (record { file = file; ssrc = ssrc; conference = conference })) old out new out_then
      (ending_behind conference file c.legs ending) ending
