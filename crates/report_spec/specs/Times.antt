-- What `times` prints of a recording: each text, and which numbers were lost or late, by the clock (profile). Each line ends
-- with LF.
use Rattle.std.specs.Prelude.{ℕ, ◌+◌, ◌*◌, ◌/◌, ◌%◌, ◌==◌, Option, None, Some, List, [], ◌∷◌, ◌++◌, length, drop, map, flat_map, nat_eq, nat_lt, codes, decimal, if◌then◌else◌}
use Rattle.std.specs.List.{sum, starts_with}
use Rattle.std.specs.Int.{w32, from_be_bytes}
use Rattle.rtt_base.specs.declared.text_packets.PayloadTypes.{PayloadTypes}
use Rattle.rtt_base.specs.declared.dates.Date.{Date}
use Rattle.rtt_base.specs.Dates.{date_of}
use Rattle.wire_spec.specs.Packets.{Arrival, has_text}
use Rattle.wire_spec.specs.Dump.{Item, Recording, past_line, arrivals_after, dump, usual_limit}
use Rattle.stream_spec.specs.Numbering.{Numbered, numbered}
use Rattle.stream_spec.specs.Ready.{Chunk, chunks}
use Rattle.view_spec.specs.Views.{printed_line}
use Rattle.command_spec.specs.Reading.{usual_wait}
use Rattle.command_spec.specs.Streams.{streams, stream, sources}
use Rattle.command_spec.specs.Showing.{number_line, end_line}
use Rattle.command_spec.specs.Transcripts.{escaped}
use Rattle.report_spec.specs.Ordered.{ordered_by}
use Rattle.report_spec.specs.Numbers.{Row, Lost, lost, late}

-- ---- the clock

-- The start that the head of a recording has, in milliseconds since 1970: seconds and microseconds, cut to milliseconds
-- (the file form of rtpdump).
abbrev pub start_in : List ℕ → ℕ
start_in head = 1000 * from_be_bytes w32 head + from_be_bytes w32 (drop 4 head) / 1000

-- the start, where the line and all of the head are there
abbrev pub start_behind : Option (List ℕ) → Option ℕ
start_behind None = None
start_behind (Some rest) = if nat_lt (length rest) 16 then None else Some (start_in rest)

unfoldable pub start_of : List ℕ → Option ℕ
start_of octets = start_behind (if starts_with nat_eq octets (codes "#!rtpplay1.0 ") then past_line 128 octets else None)

abbrev pub two_digits : ℕ → List ℕ
two_digits n = (48 + n / 10 % 10) ∷ (48 + n % 10) ∷ []

abbrev pub three_digits : ℕ → List ℕ
three_digits n = (48 + n / 100 % 10) ∷ two_digits n

-- a moment in milliseconds since 1970: its day, and the time of day
abbrev pub day_of : ℕ → ℕ
day_of t = t / 86400000

unfoldable pub time_text : ℕ → List ℕ
time_text t =
    two_digits (t / 3600000 % 24) ++ codes ":" ++ two_digits (t / 60000 % 60) ++ codes ":" ++ two_digits (t / 1000 % 60)
    ++ codes "." ++ three_digits (t % 1000)

abbrev pub date_text : Date → List ℕ
date_text d = decimal d.year ++ codes "-" ++ two_digits d.month ++ codes "-" ++ two_digits d.day

unfoldable pub day_text : ℕ → List ℕ
day_text day = date_text (date_of day)

-- ---- lines

-- a text of this source with its escapes; a row of numbers that was lost; a number that came late
pub data Told : Type 0 where
  Said : (source : ℕ) (text : List ℕ) → Told
  LostRow : (row : Row) → Told
  LateNumber : (number : ℕ) → Told

-- what is told of a stream, and the moment in milliseconds
pub record Line : Type 0 where
  pub at : ℕ
  pub ssrc : ℕ
  pub told : Told

-- a text of which nothing is left has no line
abbrev pub chunk_lines : ℕ → ℕ → Chunk → List Line
chunk_lines ssrc source c =
    if has_text (escaped c.text) then record { at = c.ready; ssrc = ssrc; told = Said source (escaped c.text) } ∷ [] else []

-- the lines of a source, as `script` has them
abbrev pub source_lines : ℕ → List Arrival → ℕ → List Line
source_lines ssrc past source = flat_map (chunk_lines ssrc source) (chunks usual_wait 0 past source)

abbrev pub lost_line : ℕ → Lost → Line
lost_line ssrc l = record { at = l.at; ssrc = ssrc; told = LostRow l.row }

abbrev pub late_line : ℕ → Numbered → Line
late_line ssrc e = record { at = e.time; ssrc = ssrc; told = LateNumber e.number }

abbrev pub number_lines : ℕ → List Numbered → List Line
number_lines ssrc past = map (lost_line ssrc) (lost usual_wait past) ++ map (late_line ssrc) (late usual_wait past)

-- those of a stream, whose sources are these
abbrev pub text_lines : ℕ → List Arrival → List ℕ → List Line
text_lines ssrc past named = flat_map (source_lines ssrc past) named

-- ---- all lines

-- what arrives of a stream, newest first
abbrev pub arrivals_in : PayloadTypes → List Item → ℕ → List Arrival
arrivals_in payload_types items ssrc = arrivals_after ssrc payload_types [] (stream payload_types ssrc items)

abbrev pub sources_in : PayloadTypes → List Item → ℕ → List ℕ
sources_in payload_types items ssrc = (sources ssrc payload_types (stream payload_types ssrc items)).kept

-- stream after stream what was lost or late, and then the texts
abbrev pub all_lines : PayloadTypes → List Item → List Line
all_lines payload_types items =
    flat_map (λ ssrc. number_lines ssrc (numbered (arrivals_in payload_types items ssrc))) (streams payload_types items).kept
    ++ flat_map (λ ssrc. text_lines ssrc (arrivals_in payload_types items ssrc) (sources_in payload_types items ssrc)) (streams payload_types items).kept

abbrev pub moment_of : Line → ℕ
moment_of l = l.at

-- by their moments, and of one moment as they stand
unfoldable pub in_order : List Line → List Line
in_order lines = ordered_by moment_of lines

-- ---- what is printed

-- the source too, where that is another than the stream
abbrev pub name_of : ℕ → ℕ → List ℕ
name_of ssrc source = if source == ssrc then decimal ssrc else decimal ssrc ++ codes "/" ++ decimal source

-- a number as packets have it
abbrev pub on_wire : ℕ → List ℕ
on_wire n = decimal (n % 65536)

abbrev pub row_text : Row → List ℕ
row_text row = if row.0 == row.1 then on_wire row.0 else on_wire row.0 ++ codes " to " ++ on_wire row.1

abbrev pub told_text : ℕ → Told → List ℕ
told_text ssrc (Said source text) = name_of ssrc source ++ codes " " ++ text
told_text ssrc (LostRow row) = decimal ssrc ++ codes " lost " ++ row_text row
told_text ssrc (LateNumber number) = decimal ssrc ++ codes " late " ++ on_wire number

-- a line of the day, where it is another than before
abbrev pub day_line : ℕ → ℕ → List ℕ
day_line before day = if day == before then [] else printed_line (codes "-- " ++ day_text day)

unfoldable pub line_text : ℕ → Line → List ℕ
line_text start l = printed_line (time_text (start + l.at) ++ codes " " ++ told_text l.ssrc l.told)

-- the lines from this day on
abbrev pub timed : ℕ → ℕ → List Line → List ℕ
timed start day [] = []
timed start day (l ∷ lines) =
    day_line day (day_of (start + l.at)) ++ line_text start l ++ timed start (day_of (start + l.at)) lines

unfoldable pub began_line : ℕ → List ℕ
began_line start = printed_line (codes "-- began " ++ day_text (day_of start) ++ codes " " ++ time_text start)

abbrev pub began_and_timed : Option ℕ → List Line → List ℕ
began_and_timed None lines = []
began_and_timed (Some start) lines = began_line start ++ timed start (day_of start) lines

-- how many packets are of sources behind the 64th of their stream, and of streams behind the 64th
abbrev pub other_sources : PayloadTypes → List Item → ℕ
other_sources payload_types items = sum (map (λ ssrc. (sources ssrc payload_types (stream payload_types ssrc items)).others) (streams payload_types items).kept)

unfoldable pub others_text : PayloadTypes → List Item → List ℕ
others_text payload_types items =
    number_line (codes "-- other sources ") (other_sources payload_types items) ++ number_line (codes "-- more ") (streams payload_types items).others

abbrev pub timed_view : PayloadTypes → Option ℕ → Recording → List ℕ
timed_view payload_types start r = began_and_timed start (in_order (all_lines payload_types r.items)) ++ others_text payload_types r.items ++ end_line r.fault

unfoldable pub times_view : PayloadTypes → List ℕ → List ℕ
times_view payload_types octets = timed_view payload_types (start_of octets) (dump usual_limit octets)
