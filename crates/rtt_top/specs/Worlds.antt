-- What one call finds in a world, and what it leaves there.
use Rattle.std.specs.Prelude.{◌≡◌, ◌⊎◌, ℕ, None, Some, List, [], ◌∷◌, Ok}
use Rattle.rtt_io.specs.declared.worlds.World as worlds
use Rattle.file_spec.specs.declared.conferences.Conference.{Conference}
use Rattle.file_spec.specs.Conferences.{meaning_of}
use Rattle.file_spec.specs.declared.conference_lines.Form.{Form}
use Rattle.file_spec.specs.declared.conference_lines.LegLine.{LegLine}
use Rattle.file_spec.specs.Conference.{conference_from}
use Rattle.file_spec.specs.Script.{ScriptLine, script}
use Rattle.command_spec.specs.declared.faults.Fault.{Fault}
use Rattle.rtt_words.specs.Words.{SendWords, ChannelWords, Command}
use Rattle.command_spec.specs.Work.{IsOutput, Makes}
use Rattle.rtt_words.specs.Tasks.{sending_of, sends, work}
use Rattle.command_spec.specs.Frames.{channel, relay}
use Rattle.wire_spec.specs.Dump.{dump, usual_limit}
use Rattle.command_spec.specs.Outcomes.{outcome, Done, Stores, AllStored}
use Rattle.rtt_mix.specs.Mixes.{NoOtherFailed, outputs_of}
use Rattle.rtt_top.specs.Outside.{RoseAt}
use Rattle.rtt_top.specs.Files.{made_file, IsPartlyStored}
use Rattle.rtt_top.specs.Faults.{Stops, IsUnread}
use Rattle.rtt_top.specs.Outputs.{IsUnwritten}

-- of a script with these octets `send` makes a file with those
abbrev pub SendMakes : SendWords → List ℕ → List ℕ → Type 0
SendMakes s octets file = sends s (script octets) ≡ Makes [] (made_file s.out file ∷ [])

module _ {W S D P : Type 0} (w : worlds.Ghosts W S D P) where
  -- ---- what failed
  -- a call that opens or creates this name failed
  abbrev pub CallFailedIn : W → W → List ℕ → Type 0
  CallFailedIn old new name = RoseAt (w.own_faults old) (w.own_faults new) name

  -- and, where something lies there, none that opens another one, as far as the world tells
  abbrev pub OpenFailedIn : W → W → List ℕ → Type 0
  OpenFailedIn old new name = CallFailedIn old new name × (w.tells → NoOtherFailed (w.contents old) name (w.own_faults old) (w.own_faults new))

  -- a source or a sink of this name failed
  abbrev pub ObjectFailedIn : W → W → List ℕ → Type 0
  ObjectFailedIn old new name = RoseAt (w.object_faults old) (w.object_faults new) name

  -- such a call, source or sink failed
  abbrev pub FailedIn : W → W → List ℕ → Type 0
  FailedIn old new name = CallFailedIn old new name ⊎ ObjectFailedIn old new name

  -- the first input, of this name, could not be read to its end, for such a cause
  abbrev pub IsUnreadIn : W → W → List ℕ → Fault → Type 0
  IsUnreadIn old new name = IsUnread (OpenFailedIn old new name) (ObjectFailedIn old new name)

  -- the command stops over the file of this name, which it reads first
  abbrev pub StopsOver : W → W → List ℕ → Command → Fault → Type 0
  StopsOver old new name c = Stops w.tells (w.contents old) c (OpenFailedIn old new name) (ObjectFailedIn old new name)

  -- ---- what was read
  -- this holds of some octets, which lie under this name as far as that is told
  abbrev pub OfOctets : W → List ℕ → (List ℕ → Type 0) → Type 0
  OfOctets world name P = (octets : List ℕ) × (w.tells → w.contents world name ≡ Some octets) × P octets

  -- this conference, whose file has this form, is read under this name
  abbrev pub ReadsConference : Form → W → List ℕ → Conference → Type 0
  ReadsConference form world name c = OfOctets world name (λ octets. conference_from form octets ≡ Ok (meaning_of c))

  -- these lines of a script are read under this name
  abbrev pub ReadsScript : W → List ℕ → List ScriptLine → Type 0
  ReadsScript world name lines = OfOctets world name (λ octets. script octets ≡ Ok lines)

  -- this is the recording of what is sent for the script that lies there
  abbrev pub MakesRecording : W → SendWords → List ℕ → Type 0
  MakesRecording world s file = OfOctets world s.file (λ octets. SendMakes s octets file)

  -- this is the recording of what is sent of the frames that lie there
  abbrev pub RelaysFrames : W → SendWords → List ℕ → Type 0
  RelaysFrames world s file = OfOctets world s.file (λ octets. relay (sending_of s) octets ≡ Ok file)

  -- these are the frames of the recording that lies there, which is read to its end, as far as that is told
  abbrev pub WritesFrames : W → ChannelWords → List ℕ → Type 0
  WritesFrames world c file =
      w.tells → (octets : List ℕ) × (w.contents world c.file ≡ Some octets) × ((dump usual_limit octets).fault ≡ None) × (channel c.ssrc octets ≡ Ok file)

  -- the outcome of the command is that these octets are printed, and no file is made
  abbrev pub OnlyPrints : W → Command → List ℕ → Type 0
  OnlyPrints world c printed = outcome (w.contents world) (work c).steps ≡ Done printed []

  -- the outcome is that a file of this name is made with these octets, as far as that is told, and nothing is printed
  abbrev pub OnlyMakes : W → Command → List ℕ → List ℕ → Type 0
  OnlyMakes world c name octets = IsOutput w.tells (w.contents world) (work c).steps 0 name
      × (w.tells → outcome (w.contents world) (work c).steps ≡ Done [] (made_file name octets ∷ []))

  -- ---- what was stored
  -- these octets lie under this name, and under each other name what lay there before
  abbrev pub Saves : W → W → List ℕ → List ℕ → Type 0
  Saves old new name octets = Stores (made_file name octets) (w.contents old) (w.contents new)

  -- a front of them lies there, where the sink of this name failed, or nothing was changed
  abbrev pub SavesPartly : W → W → List ℕ → List ℕ → Type 0
  SavesPartly old new name octets =
      IsPartlyStored (CallFailedIn old new name) (ObjectFailedIn old new name) (made_file name octets)
      (w.contents old) (w.contents new)

  -- the output of each leg lies there with its octets, and under each other name what lay there before
  abbrev pub SavesEach : W → W → List LegLine → List (List ℕ) → Type 0
  SavesEach old new legs outputs = AllStored (outputs_of legs outputs) (w.contents old) (w.contents new)

  -- the output of a leg could not be written
  abbrev pub IsUnwrittenIn : W → W → List LegLine → List (List ℕ) → Fault → Type 0
  IsUnwrittenIn old new legs outputs =
      IsUnwritten w.tells (CallFailedIn old new) (ObjectFailedIn old new) (outputs_of legs outputs)
      (w.contents old) (w.contents new)
