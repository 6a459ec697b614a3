-- Recordings in which the packets of each stream come in a row.
use Rattle.std.specs.Prelude.{◌≡◌, ℕ, List, [], ◌∷◌, map}
use Rattle.std.specs.List.{sum}
use Rattle.rtt_base.specs.declared.text_packets.PayloadTypes.{PayloadTypes}
use Rattle.wire_spec.specs.Dump.{Item, arrivals_after}
use Rattle.stream_spec.specs.Numbering.{numbered}
use Rattle.command_spec.specs.Streams.{sources, stream}
use Rattle.rtt_show.specs.declared.groups.Group.{Group}
use Rattle.rtt_show.specs.declared.rows.Row.{Row}
use Rattle.rtt_show.specs.Records.{OfRecords}
use Rattle.rtt_show.specs.Rows.{IsRow}
use Rattle.report_spec.specs.Times.{number_lines, text_lines}
use Rattle.rtt_times.specs.declared.lines.Lines.{Lines}
use Rattle.rtt_times.specs.Found.{ForItems, all_numbers, all_texts, names}
use Rattle.rtt_times.specs.Lines.{AddsLines, written}

-- the packets of each stream come in its row
abbrev pub AreRows : List Group → List Row → Type 0
AreRows [] [] = Unit {0}
AreRows [] (row ∷ rows) = ⊥
AreRows (stream ∷ streams) [] = ⊥
AreRows (stream ∷ streams) (row ∷ rows) = OfRecords stream.records (IsRow row) × AreRows streams rows

-- all lines of a stream with these packets were added, and they are those of its texts
pub record HasTexts (payload_types : PayloadTypes) (ssrc : ℕ) (old new : Lines) (came : List Item) : Type 0 where
  pub numbers : number_lines ssrc (numbered (arrivals_after ssrc payload_types [] came)) ≡ []
  pub others : (sources ssrc payload_types came).others ≡ 0
  pub texts : AddsLines old (map written (text_lines ssrc (arrivals_after ssrc payload_types [] came) (sources ssrc payload_types came).kept)) new

abbrev pub AddsRow : PayloadTypes → Group → Lines → Lines → Type 0
AddsRow payload_types stream old new = OfRecords stream.records (HasTexts payload_types stream.name old new)

-- those of all these streams of a recording
pub record HaveTexts (payload_types : PayloadTypes) (ssrcs : List ℕ) (old new : Lines) (items : List Item) : Type 0 where
  pub numbers : all_numbers payload_types items ssrcs ≡ []
  pub others : sum (map (λ ssrc. (sources ssrc payload_types (stream payload_types ssrc items)).others) ssrcs) ≡ 0
  pub texts : AddsLines old (all_texts payload_types items ssrcs) new

abbrev pub AddsRows : PayloadTypes → List Group → Lines → Lines → Type 0
AddsRows payload_types streams old new = ForItems payload_types streams (HaveTexts payload_types (names streams) old new)
