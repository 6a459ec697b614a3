-- What holds of the lines that `times` prints.
use Rattle.std.specs.Prelude.{◌≡◌, ℕ, ◌==◌, ◌&&◌, Bool, false, List, [], filter, flat_map}
use Rattle.wire_spec.specs.Dump.{Item}
use Rattle.command_spec.specs.declared.requests.ReadRequest.{ReadRequest}
use Rattle.command_spec.specs.Reading.{records_of}
use Rattle.command_spec.specs.Streams.{AreGiven, streams, stream, sources}
use Rattle.command_spec.specs.Transcripts.{moment_line, transcript_view}
use Rattle.stream_spec.specs.Lists.{In}
use Rattle.report_spec.specs.Times.{Told, Said, LostRow, LateNumber, Line, all_lines, in_order}

abbrev pub is_said_by : ℕ → Told → Bool
is_said_by source (Said other text) = other == source
is_said_by source (LostRow row) = false
is_said_by source (LateNumber number) = false

-- a line has a text of this stream and source
abbrev pub is_text_of : ReadRequest → Line → Bool
is_text_of r l = l.ssrc == r.ssrc && is_said_by r.source l.told

-- the line of a text as `script` has it
abbrev pub as_scripted : ℕ → Told → List ℕ
as_scripted at (Said source text) = moment_line at text
as_scripted at (LostRow row) = []
as_scripted at (LateNumber number) = []

abbrev pub scripted_line : Line → List ℕ
scripted_line l = as_scripted l.at l.told

-- the stream is one of those that are told of, and the source one of its sources
pub record IsTold (r : ReadRequest) (items : List Item) : Type 0 where
  pub of_stream : In r.ssrc (streams r.payload_types items).kept
  pub of_source : In r.source (sources r.ssrc r.payload_types (stream r.payload_types r.ssrc items)).kept

-- the text lines of a stream and a source are what `script` prints of them, in the same order
abbrev pub TextLinesAreScripts : Type 0
TextLinesAreScripts =
    (r : ReadRequest) (octets : List ℕ)
    → AreGiven r.payload_types
    → IsTold r (records_of octets)
    → flat_map scripted_line (filter (is_text_of r) (in_order (all_lines r.payload_types (records_of octets)))) ≡ transcript_view r octets
