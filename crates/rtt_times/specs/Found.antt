-- What is told of all that was found in a recording.
use Rattle.std.specs.Prelude.{◌≡◌, ℕ, ◌<◌, ◌^◌, Option, None, Some, List, [], ◌++◌, length, map, flat_map, All}
use Rattle.std.specs.List.{sum}
use Rattle.rtt_base.specs.declared.text_packets.PayloadTypes.{PayloadTypes}
use Rattle.wire_spec.specs.Dump.{Item, arrivals_after}
use Rattle.stream_spec.specs.Numbering.{numbered}
use Rattle.command_spec.specs.Firsts.{Firsts}
use Rattle.command_spec.specs.Streams.{sources, stream, stream_of}
use Rattle.rtpdump_io.specs.InMemory.{HasRecords}
use Rattle.rtpdump_io.specs.declared.items.DumpFault.{DumpFault}
use Rattle.rtt_show.specs.declared.first_sources.FirstSources.{FirstSources}
use Rattle.rtt_show.specs.declared.findings.Findings.{Findings}
use Rattle.rtt_show.specs.declared.groups.Group.{Group}
use Rattle.rtt_show.specs.Finds.{IsFound}
use Rattle.rtt_show.specs.Groups.{GroupHolds}
use Rattle.rtt_show.specs.Records.{OfRecords}
use Rattle.rtt_show.specs.Surveys.{firsts_of}
use Rattle.rtt_show.specs.Whole.{ends}
use Rattle.report_spec.specs.Times.{all_lines, arrivals_in, began_line, day_of, in_order, number_lines, other_sources, sources_in, text_lines, timed_view}
use Rattle.rtt_times.specs.declared.lines.Lines.{Lines}
use Rattle.rtt_times.specs.Lines.{AddsLines, Keeps, Line, timed_written, written}

-- ---- a stream

-- its packets, as records, and its SSRC
abbrev pub IsStream : Group → Type 0
IsStream stream = HasRecords stream.records × stream.name < 2 ^ 32

-- the lines of the texts of these sources were added
abbrev pub AddsTexts : ℕ → PayloadTypes → List ℕ → List ℕ → Lines → Lines → Type 0
AddsTexts ssrc payload_types named octets old new = OfRecords octets (λ came. AddsLines old (map written (text_lines ssrc (arrivals_after ssrc payload_types [] came) named)) new)

-- those of its numbers
abbrev pub HasNumbersAdded : PayloadTypes → Group → Lines → Lines → Type 0
HasNumbersAdded payload_types stream old new =
    OfRecords stream.records (λ came. AddsLines old (map written (number_lines stream.name (numbered (arrivals_after stream.name payload_types [] came)))) new)

-- these are its sources
abbrev pub NamesSources : PayloadTypes → Group → FirstSources → Type 0
NamesSources payload_types stream named = OfRecords stream.records (λ came. firsts_of named ≡ sources stream.name payload_types came)

abbrev pub AreFew : FirstSources → Type 0
AreFew named = named.others < 2 ^ 32

-- ---- all streams

abbrev pub names : List Group → List ℕ
names streams = map (λ stream. stream.name) streams

-- the sources of each of these streams
abbrev pub sources_of : PayloadTypes → List Item → List ℕ → List Firsts
sources_of payload_types items ssrcs = map (λ ssrc. sources ssrc payload_types (stream payload_types ssrc items)) ssrcs

-- the records are these, and the streams have their packets
abbrev pub ForItems : PayloadTypes → List Group → (List Item → Type 0) → Type 0
ForItems payload_types streams P = (items : List Item) → length items < 2 ^ 32
    → All (GroupHolds (stream_of payload_types) items) streams → P items

abbrev pub all_numbers : PayloadTypes → List Item → List ℕ → List Line
all_numbers payload_types items ssrcs = map written (flat_map (λ ssrc. number_lines ssrc (numbered (arrivals_in payload_types items ssrc))) ssrcs)

abbrev pub all_texts : PayloadTypes → List Item → List ℕ → List Line
all_texts payload_types items ssrcs = map written (flat_map (λ ssrc. text_lines ssrc (arrivals_in payload_types items ssrc) (sources_in payload_types items ssrc)) ssrcs)

-- the lines of their numbers were added, and these are their sources
abbrev pub AreNumbered : PayloadTypes → List Group → List FirstSources → Lines → Lines → Type 0
AreNumbered payload_types streams named old new =
    ForItems payload_types streams (λ items. AddsLines old (all_numbers payload_types items (names streams)) new × (map firsts_of named ≡ sources_of payload_types items (names streams)))

-- the lines of their texts were added, where these are their sources
abbrev pub AreTexted : PayloadTypes → List Group → List FirstSources → Lines → Lines → Type 0
AreTexted payload_types streams named old new =
    ForItems payload_types streams (λ items. map firsts_of named ≡ sources_of payload_types items (names streams) → AddsLines old (all_texts payload_types items (names streams)) new)

abbrev pub sum_others : List FirstSources → ℕ
sum_others named = sum (map (λ n. n.others) named)

-- ---- a recording

-- this was found in some records
abbrev pub IsFoundOf : Findings → Type 0
IsFoundOf found = (items : List Item) × (length items < 2 ^ 32) × IsFound found items

-- these are all lines in their order, and how many packets are of other sources
abbrev pub IsToldOf : Findings → Lines → ℕ → Type 0
IsToldOf found lines others =
    (items : List Item) → length items < 2 ^ 32 → IsFound found items
    → Keeps lines (map written (in_order (all_lines found.payload_types items))) × (others ≡ other_sources found.payload_types items)

-- the lines were appended with their times, where the start is known
abbrev pub began_and_written : Option ℕ → List Line → List ℕ
began_and_written None lines = []
began_and_written (Some start) lines = began_line start ++ timed_written start (day_of start) lines

abbrev pub IsTimedFrom : Lines → Option ℕ → List ℕ → List ℕ → Type 0
IsTimedFrom l start old new = (lines : List Line) → Keeps l lines → new ≡ old ++ began_and_written start lines

-- this is what is printed
abbrev pub IsPrintedOf : Findings → Option ℕ → Option DumpFault → List ℕ → Type 0
IsPrintedOf found start end printed =
    (items : List Item) → length items < 2 ^ 32 → IsFound found items
    → printed ≡ timed_view found.payload_types start (record { items = items; fault = ends end })
