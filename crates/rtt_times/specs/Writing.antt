-- What was written of the texts of a source whose packets come one after another.
use Rattle.std.specs.Prelude.{◌≡◌, ℕ, List, [], length, map, flat_map}
use Rattle.wire_spec.specs.Dump.{Item, arrivals_after}
use Rattle.command_spec.specs.declared.requests.ReadRequest.{ReadRequest}
use Rattle.report_spec.specs.Times.{source_lines}
use Rattle.receiver.specs.declared.ears.Ear.{Ear}
use Rattle.recording_views.specs.Writing.{HasWritten, Texts}
use Rattle.rtt_show.specs.Records.{OfRecords}
use Rattle.rtt_times.specs.declared.lines.Lines.{Lines}
use Rattle.rtt_times.specs.Lines.{Line, AddsLines, chunk_written, name_before, written}

-- the lines of these
abbrev pub lines_of : ReadRequest → Texts → List Line
lines_of r texts = flat_map (chunk_written r) texts

-- their lines were added to the first, behind this name
abbrev pub AddsTexts : List ℕ → Lines → Lines → Texts → Type 0
AddsTexts name first now texts = (r : ReadRequest) → name ≡ name_before r → AddsLines first (lines_of r texts) now

-- these items came, oldest first
abbrev pub HasWrittenOf : List ℕ → ReadRequest → Lines → Ear → Lines → List Item → Type 0
HasWrittenOf name r first ear lines came =
    HasWritten (AddsTexts name) r first (arrivals_after r.ssrc r.payload_types [] came) ear lines

-- nothing came before, and then these records
abbrev pub WritesRecords : List ℕ → List ℕ → Ear → Lines → Ear → Lines → Type 0
WritesRecords name octets before old after new = (r : ReadRequest) (first : Lines) → HasWrittenOf name r first before old []
    → OfRecords octets (HasWrittenOf name r first after new)

-- the lines of the source were added, of the stream with these records
abbrev pub AddsSource : ReadRequest → List ℕ → Lines → Lines → Type 0
AddsSource r octets old new = OfRecords octets (λ came. AddsLines old (map written (source_lines r.ssrc (arrivals_after r.ssrc r.payload_types [] came) r.source)) new)

-- so many of these records are packets of text of the stream
abbrev pub HasArrivals : ReadRequest → List ℕ → ℕ → Type 0
HasArrivals r octets n = OfRecords octets (λ came. n ≡ length (arrivals_after r.ssrc r.payload_types [] came))
