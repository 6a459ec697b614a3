-- Commands that print a view of a recording.
use Rattle.std.specs.Prelude.{◌≡◌, ℕ, true, Option, List, []}
use Rattle.rtt_base.specs.declared.text_packets.PayloadTypes.{PayloadTypes}
use Rattle.wire_spec.specs.Dump.{Recording, dump, usual_limit}
use Rattle.wire_spec.specs.Dump as dumps
use Rattle.rtpdump_io.specs.declared.items.RecordingFault.{RecordingFault}
use Rattle.rtpdump_io.specs.Faults.{FaultOf}
use Rattle.command_spec.specs.declared.requests.ReadRequest.{ReadRequest}
use Rattle.command_spec.specs.Listing.{list_view}
use Rattle.command_spec.specs.Reading.{read_view}
use Rattle.command_spec.specs.Showing.{if_no_recording}
use Rattle.report_spec.specs.Showing.{show_view}
use Rattle.report_spec.specs.Times.{start_of, times_view}
use Rattle.command_spec.specs.Transcripts.{transcript_view}
use Rattle.rtt_words.specs.Words.{Command, ListRecords, Read, ReadWords, Script, Show}
use Rattle.rtt_words.specs.Words as words
use Rattle.rtt_words.specs.Tasks.{prints_unless, work}
use Rattle.rtt_top.specs.declared.views.RecordingView.{RecordingView}
use Rattle.rtt_top.specs.declared.views.RecordingView.TheVariants.{Lines, Streams, Times, Text, Transcript}
use Rattle.rtt_top.specs.Faults.{is_recording}

-- The command prints this view of the recording of this name, unless it is refused by the fault that it has.
pub record PrintsView (refuses : Option dumps.Fault → Option dumps.Fault) (view : List ℕ → List ℕ) (file : List ℕ) (c : Command) : Type 0 where
  pub does : work c ≡ prints_unless (λ octets. refuses (dump usual_limit octets).fault) file view
  pub recording : is_recording c 0 ≡ true

-- this is the view of the octets that the recording is of
abbrev pub IsViewOf : (List ℕ → List ℕ) → Recording → List ℕ → Type 0
IsViewOf view recording printed = (octets : List ℕ) → recording ≡ dump usual_limit octets → printed ≡ view octets

-- the same, where they tell this start
abbrev pub IsViewFrom : (List ℕ → List ℕ) → Option ℕ → Recording → List ℕ → Type 0
IsViewFrom view start recording printed = (octets : List ℕ) → recording ≡ dump usual_limit octets
    → start ≡ start_of octets → printed ≡ view octets

-- a recording is refused so, and this is the fault of its reading, where that is none of the source
abbrev pub IsRefusal : Option dumps.Fault → RecordingFault → Type 0
IsRefusal refused fault = FaultOf (record { items = []; fault = refused }) fault

-- the words that ask for this of the recording of this name
abbrev pub words_for : ReadRequest → List ℕ → ReadWords
words_for r file = record { file = file; ssrc = r.ssrc; source = r.source; payload_types = r.payload_types }

-- the command that prints this of the recording of this name
abbrev pub command_of : RecordingView → List ℕ → Command
command_of (Lines payload_types) file = ListRecords (record { file = file; payload_types = payload_types })
command_of (Streams payload_types) file = Show (record { file = file; payload_types = payload_types })
command_of (Times payload_types) file = words.Times (record { file = file; payload_types = payload_types })
command_of (Text request) file = Read (words_for request file)
command_of (Transcript request) file = Script (words_for request file)

-- why nothing is printed, where the recording has this fault or none
abbrev pub refused_by : RecordingView → Option dumps.Fault → Option dumps.Fault
refused_by (Lines payload_types) fault = fault
refused_by (Streams payload_types) fault = if_no_recording fault
refused_by (Times payload_types) fault = if_no_recording fault
refused_by (Text request) fault = fault
refused_by (Transcript request) fault = fault

-- the view of the recording with these octets
abbrev pub view_by : RecordingView → List ℕ → List ℕ
view_by (Lines payload_types) octets = list_view payload_types (dump usual_limit octets).items
view_by (Streams payload_types) octets = show_view payload_types octets
view_by (Times payload_types) octets = times_view payload_types octets
view_by (Text request) octets = read_view request octets
view_by (Transcript request) octets = transcript_view request octets
