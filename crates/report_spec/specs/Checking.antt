-- What `check` tells of a file alone: what it is and that it is whole, or its first fault as the commands name it, the line or the octets,
-- and a sentence (profile). Each line ends with LF.
use Rattle.std.specs.Prelude.{ℕ, zero, suc, ◌+◌, ◌/◌, ◌%◌, nat_lt, Bool, true, false, ◌&&◌, if◌then◌else◌, List, [], ◌∷◌, ◌++◌, length, take, drop, map, flat_map, Option, None, Some, Result, Ok, Err, codes, decimal}
use Rattle.std.specs.List.{list_any}
use Rattle.std.specs.Str.Lines.{lines}
use Rattle.wire_spec.specs.Dump.{Item, What, Whole, Rtcp, Cut, Large, dump, usual_limit}
use Rattle.wire_spec.specs.Dump as dumps
use Rattle.file_spec.specs.declared.conference_lines.Form.{Form}
use Rattle.file_spec.specs.declared.conference_lines.Form.TheVariants as of
use Rattle.file_spec.specs.declared.conference_lines.LegLine.{LegLine}
use Rattle.file_spec.specs.declared.kinds.ConfKind.TheVariants.{Full}
use Rattle.file_spec.specs.Lines as file
use Rattle.file_spec.specs.Conference.{Conference, conference_from}
use Rattle.file_spec.specs.Script.{ScriptLine, script}
use Rattle.file_spec.specs.declared.frames.FrameRefusal.{FrameRefusal}
use Rattle.command_spec.specs.declared.faults.Refusal.{Refusal}
use Rattle.command_spec.specs.declared.faults.Refusal.TheVariants.{AtByte, AtFrame, AtLine, AtTrunk}
use Rattle.command_spec.specs.Cascading.{is_on_trunk, odd_line}
use Rattle.command_spec.specs.Frames.{relay}
use Rattle.command_spec.specs.Messages.{refusal_message}
use Rattle.command_spec.specs.Scripts.{Sending, full_line, usual_sending}
use Rattle.report_spec.specs.declared.forms.FileForm.{FileForm}
use Rattle.report_spec.specs.declared.forms.FileForm.TheVariants.{Gzip, Pcap, PcapNg, TooLarge, Empty, Utf16, Nothing, Recording, Frames, Script, Recordings, Links}
use Rattle.report_spec.specs.declared.forms.LineWord.{LineWord}
use Rattle.report_spec.specs.declared.forms.LineWord.TheVariants.{Other}
use Rattle.report_spec.specs.declared.limits.TheConstants.{MOST_CHECKED_OCTETS, MOST_SHOWN_AT_BYTE, MOST_SHOWN_OCTETS}
use Rattle.report_spec.specs.Forms.{foreign, form_of, has_mark, said, word_of}
use Rattle.report_spec.specs.Sentences.{cascade_name, conference_sentence, dump_sentence, form_name, form_sentence, frame_sentence, mark_sentence, script_sentence, trunk_sentence}
use Rattle.report_spec.specs.Told.{told_name}

-- what is told, and whether the program takes the file
pub record Report : Type 0 where
  pub text : List ℕ
  pub taken : Bool

-- ---- a line

-- an octet that is no ASCII letter, digit, sign or space stands as `?`
abbrev pub shown_octet : ℕ → ℕ
shown_octet c = if nat_lt 31 c && nat_lt c 127 then c else 63

abbrev pub shown_line : List ℕ → List ℕ
shown_line line = codes "| " ++ (map shown_octet (take MOST_SHOWN_OCTETS line) ++ codes "\n")

-- the line of this number among these, of which the first has the number 1
abbrev pub line_at : ℕ → List (List ℕ) → Option (List ℕ)
line_at n [] = None
line_at zero (l ∷ more) = None
line_at (suc zero) (l ∷ more) = Some l
line_at (suc (suc n)) (l ∷ more) = line_at (suc n) more

-- it, where there is one: the line behind the last one, and the file as a whole, are none
abbrev pub shown : Option (List ℕ) → List ℕ
shown None = []
shown (Some line) = shown_line line

-- what it tells
abbrev pub word_in : Option (List ℕ) → LineWord
word_in None = Other
word_in (Some line) = word_of (said line)

-- ---- the octets at a byte

abbrev pub hex_digit : ℕ → ℕ
hex_digit d = if nat_lt d 10 then 48 + d else 87 + d

-- two hexadecimal digits behind a space
abbrev pub hex_octet : ℕ → List ℕ
hex_octet c = 32 ∷ hex_digit (c / 16) ∷ hex_digit (c % 16) ∷ []

-- the first of these octets, where there is one
abbrev pub shown_octets : List ℕ → List ℕ
shown_octets [] = []
shown_octets (c ∷ more) = codes "|" ++ (flat_map hex_octet (take MOST_SHOWN_AT_BYTE (c ∷ more)) ++ codes "\n")

-- those of a file from this byte on
abbrev pub shown_at : List ℕ → ℕ → List ℕ
shown_at octets byte = shown_octets (drop byte octets)

-- ---- what is told

-- a file of this name of a form is whole
abbrev pub whole_as : List ℕ → ℕ → List ℕ → Report
whole_as what count unit = record { text = what ++ (codes ": " ++ (decimal count ++ (unit ++ codes ", whole\n"))); taken = true }

abbrev pub whole : FileForm → ℕ → List ℕ → Report
whole form count unit = whole_as (form_name form) count unit

abbrev pub refused : FileForm → List ℕ → Refusal → List ℕ → List ℕ → Report
refused form name refusal line sentence = record {
  text = form_name form ++ (codes "\n" ++ (refusal_message (told_name name) refusal ++ (line ++ (sentence ++ codes "\n"))));
  taken = false;
}

abbrev pub untaken : FileForm → Report
untaken form = record { text = form_name form ++ (codes "\n" ++ (form_sentence form ++ codes "\n")); taken = false }

-- ---- a recording

abbrev pub packets_of : What → ℕ
packets_of (Whole octets) = 1
packets_of Rtcp = 0
packets_of Cut = 1
packets_of Large = 1

-- how many of the records are packets
abbrev pub packets_in : List Item → ℕ
packets_in [] = 0
packets_in (item ∷ more) = packets_of item.what + packets_in more

abbrev pub recording_read : List ℕ → List ℕ → dumps.Recording → Report
recording_read name octets r =
    elim r.fault [
      | None ↦ whole Recording (packets_in r.items) (codes " packets")
      | Some fault ↦ refused Recording name (AtByte fault.byte fault.kind) (shown_at octets fault.byte) (dump_sentence fault.kind)
    ]

abbrev pub recording_report : List ℕ → List ℕ → Report
recording_report name octets = recording_read name octets (dump usual_limit octets)

-- ---- a script

-- a byte order mark is told of first
abbrev pub unless_mark : List ℕ → List ℕ → List ℕ
unless_mark octets sentence = if has_mark octets then mark_sentence else sentence

abbrev pub script_refused : List ℕ → List ℕ → file.Refusal → Report
script_refused name octets r =
    refused Script name (AtLine r.line r.kind) (shown (line_at r.line (lines octets))) (unless_mark octets (script_sentence r.kind))

-- a sender of no other SSRC or numbers than any
abbrev pub any_sending : Sending
any_sending = usual_sending 0 0 0

abbrev pub unless_full : List ℕ → List ℕ → List ScriptLine → Option ℕ → Report
unless_full name octets said None = whole Script (length said) (codes " lines")
unless_full name octets said (Some line) = script_refused name octets (record { line = line; kind = Full })

abbrev pub script_read : List ℕ → List ℕ → Result (List ScriptLine) file.Refusal → Report
script_read name octets (Ok said) = unless_full name octets said (full_line any_sending said)
script_read name octets (Err r) = script_refused name octets r

abbrev pub script_report : List ℕ → List ℕ → Report
script_report name octets = script_read name octets (script octets)

-- ---- a conference

abbrev pub form_in : Form → FileForm
form_in of.Files = Recordings
form_in of.Links = Links

-- a leg stands behind another mixer
abbrev pub has_trunk : List LegLine → Bool
has_trunk legs = list_any is_on_trunk legs

-- a conference of recordings that is right for `cascade` is said to be so
abbrev pub recordings_name : List LegLine → List ℕ
recordings_name legs = if has_trunk legs then cascade_name else form_name Recordings

-- it is refused where a leg that stands there has other payload types
abbrev pub unless_odd : List ℕ → List ℕ → List LegLine → Option ℕ → Report
unless_odd name octets legs None = whole_as (recordings_name legs) (length legs) (codes " legs")
unless_odd name octets legs (Some line) = refused Recordings name (AtTrunk line) (shown (line_at line (lines octets))) trunk_sentence

abbrev pub conference_whole : Form → List ℕ → List ℕ → List LegLine → Report
conference_whole of.Files name octets legs = unless_odd name octets legs (odd_line legs)
conference_whole of.Links name octets legs = whole Links (length legs) (codes " legs")

abbrev pub conference_read : Form → List ℕ → List ℕ → Result Conference file.Refusal → Report
conference_read form name octets (Ok c) = conference_whole form name octets c.legs
conference_read form name octets (Err r) =
    refused (form_in form) name (AtLine r.line r.kind) (shown (line_at r.line (lines octets)))
    (unless_mark octets (conference_sentence form (word_in (line_at r.line (lines octets))) r.kind))

abbrev pub conference_report : Form → List ℕ → List ℕ → Report
conference_report form name octets = conference_read form name octets (conference_from form octets)

-- ---- frames

abbrev pub frames_read : List ℕ → List ℕ → Result (List ℕ) FrameRefusal → Report
frames_read name octets (Ok sent) = whole Frames (length octets) (codes " octets")
frames_read name octets (Err fault) = refused Frames name (AtFrame fault.offset fault.kind) (shown_at octets fault.offset) (frame_sentence fault.kind)

abbrev pub frames_report : List ℕ → List ℕ → Report
frames_report name octets = frames_read name octets (relay any_sending octets)

-- ---- a file

abbrev pub report_as : FileForm → List ℕ → List ℕ → Report
report_as Recording name octets = recording_report name octets
report_as Frames name octets = frames_report name octets
report_as Script name octets = script_report name octets
report_as Recordings name octets = conference_report of.Files name octets
report_as Links name octets = conference_report of.Links name octets
report_as Gzip name octets = untaken Gzip
report_as Pcap name octets = untaken Pcap
report_as PcapNg name octets = untaken PcapNg
report_as TooLarge name octets = untaken TooLarge
report_as Empty name octets = untaken Empty
report_as Utf16 name octets = untaken Utf16
report_as Nothing name octets = untaken Nothing

abbrev pub report_of : Option FileForm → List ℕ → List ℕ → Report
report_of (Some form) name octets = untaken form
report_of None name octets =
    if nat_lt MOST_CHECKED_OCTETS (length octets) then untaken TooLarge else report_as (form_of octets) name octets

-- what is told of the file of this name that has these octets, alone
abbrev pub report : List ℕ → List ℕ → Report
report name octets = report_of (foreign octets) name octets
