-- What `check` tells of the IN of a leg: that it is no recording, is refused as one, or has other packets than those of the leg (profile).
use Rattle.std.specs.Prelude.{ℕ, ◌==◌, ◌&&◌, ◌||◌, nat_lt, Bool, true, false, if◌then◌else◌, List, [], ◌∷◌, ◌++◌, length, Option, None, Some, Result, Ok, Err, codes, decimal}
use Rattle.std.specs.List.{list_any}
use Rattle.std.specs.Option.{option_map_or}
use Rattle.std.specs.Str.Lines.{lines}
use Rattle.wire_spec.specs.declared.faults.RtpFault.{RtpFault}
use Rattle.wire_spec.specs.Dump.{Item, What, Whole, Rtcp, Cut, Large, dump, usual_limit}
use Rattle.wire_spec.specs.Dump as dumps
use Rattle.wire_spec.specs.Rtp.{Reading, rtp}
use Rattle.file_spec.specs.declared.conference_lines.LegLine.{LegLine}
use Rattle.mixer_spec.specs.declared.limits.TheConstants.{MOST_INPUT_OF_MANY, PLACES}
use Rattle.command_spec.specs.declared.faults.Refusal.TheVariants.{AtByte}
use Rattle.report_spec.specs.declared.forms.FileForm.{FileForm}
use Rattle.report_spec.specs.declared.forms.FileForm.TheVariants.{Gzip, Pcap, PcapNg, TooLarge, Empty, Utf16, Nothing, Recording, Frames, Script, Recordings, Links}
use Rattle.report_spec.specs.declared.streams.Stream.{Stream}
use Rattle.report_spec.specs.declared.limits.TheConstants.{MOST_CHECKED_OCTETS}
use Rattle.report_spec.specs.Checking.{Report, line_at, refused, shown, shown_at}
use Rattle.report_spec.specs.Forms.{foreign, form_of}
use Rattle.report_spec.specs.Sentences.{form_name, input_dump_sentence, input_sentence, stream_sentence}
use Rattle.report_spec.specs.Told.{told_name}

-- how many octets an IN may have, by the number of legs
abbrev pub most_of_input : List LegLine → ℕ
most_of_input legs = if nat_lt PLACES (length legs) then MOST_INPUT_OF_MANY else usual_limit

-- ---- its packets

-- of what stream a packet is, where its header can be read
abbrev pub stream_read : Result Reading RtpFault → Option Stream
stream_read (Ok header) = Some (record { ssrc = header.ssrc; pt = header.pt })
stream_read (Err fault) = None

abbrev pub stream_of : What → Option Stream
stream_of (Whole octets) = stream_read (rtp octets)
stream_of Rtcp = None
stream_of Cut = None
stream_of Large = None

-- it is that of the leg: it has its SSRC, and one of its payload types
abbrev pub is_stream_of : LegLine → Stream → Bool
is_stream_of leg s = s.ssrc == leg.ssrc && (s.pt == leg.payload_types.t140 || s.pt == leg.payload_types.red)

abbrev pub is_of_leg : LegLine → Item → Bool
is_of_leg leg item = option_map_or (is_stream_of leg) (stream_of item.what) false

abbrev pub or_later : Option Stream → Option Stream → Option Stream
or_later (Some s) later = Some s
or_later None later = later

-- that of the first packet
abbrev pub first_stream : List Item → Option Stream
first_stream [] = None
first_stream (item ∷ more) = or_later (stream_of item.what) (first_stream more)

-- ---- what is told

-- what the file is that names it, and its name
abbrev pub begun : LegLine → List ℕ
begun leg = form_name Recordings ++ codes "\n" ++ told_name leg.input

-- behind what is told of it stand the line of the leg, and a sentence
abbrev pub ended : List ℕ → Option (List ℕ) → List ℕ → Report
ended told line sentence = record { text = told ++ codes "\n" ++ shown line ++ (sentence ++ codes "\n"); taken = false }

-- it is of this form, where the leg stands in this line
abbrev pub input_form : FileForm → LegLine → Option (List ℕ) → Report
input_form form leg line = ended (begun leg ++ codes " is: " ++ form_name form) line (input_sentence form)

-- it is a recording in which this is wrong
abbrev pub dump_refused : LegLine → List ℕ → dumps.Fault → Report
dump_refused leg octets fault =
    refused Recordings leg.input (AtByte fault.byte fault.kind) (shown_at octets fault.byte) (input_dump_sentence fault.kind)

-- it is a recording in which this is wrong, or of another form
abbrev pub input_faulty : FileForm → LegLine → Option (List ℕ) → List ℕ → dumps.Fault → Report
input_faulty Recording leg line octets fault = dump_refused leg octets fault
input_faulty form leg line octets fault = input_form form leg line

-- what it has in place of packets of the leg
abbrev pub has_instead : Option Stream → List ℕ
has_instead None = codes " has no packets"
has_instead (Some s) = codes " has SSRC " ++ (decimal s.ssrc ++ (codes ", type " ++ decimal s.pt))

abbrev pub not_heard : Option Stream → LegLine → Option (List ℕ) → Report
not_heard first leg line = ended (begun leg ++ has_instead first) line stream_sentence

abbrev pub unless_heard : Bool → Option Stream → LegLine → Option (List ℕ) → Option Report
unless_heard true first leg line = None
unless_heard false first leg line = Some (not_heard first leg line)

-- what is told of its records
abbrev pub records_told : List Item → LegLine → Option (List ℕ) → Option Report
records_told items leg line = unless_heard (list_any (is_of_leg leg) items) (first_stream items) leg line

-- a form that is known by the first octets, or by what the file says
abbrev pub form_by : Option FileForm → List ℕ → FileForm
form_by (Some form) octets = form
form_by None octets = form_of octets

abbrev pub form_in : List ℕ → FileForm
form_in octets = form_by (foreign octets) octets

abbrev pub recording_told : LegLine → Option (List ℕ) → List ℕ → dumps.Recording → Option Report
recording_told leg line octets r =
    elim r.fault [
      | None ↦ records_told r.items leg line
      | Some fault ↦ Some (input_faulty (form_in octets) leg line octets fault)
    ]

-- what is told of the IN of a leg that stands in this line, where it may have so many octets and has these: nothing where all is well
abbrev pub input_told : ℕ → LegLine → Option (List ℕ) → List ℕ → Option Report
input_told limit leg line octets =
    if nat_lt MOST_CHECKED_OCTETS (length octets) then Some (input_form TooLarge leg line)
    else recording_told leg line octets (dump limit octets)

-- the same of a leg of the conference that has these octets
abbrev pub leg_told : ℕ → List ℕ → LegLine → List ℕ → Option Report
leg_told limit conference leg octets = input_told limit leg (line_at leg.line (lines conference)) octets
