-- Which numbers of a stream were lost or late, of those that were heard.
use Rattle.std.specs.Prelude.{◌≡◌, ℕ, suc, ◌+◌, ◌-◌, ◌<◌, ◌≤◌, ◌==◌, Bool, not, List, [], ◌∷◌, ◌++◌, length, map, filter, slice_index_or}
use Rattle.std.specs.List.{list_any}
use Rattle.std.specs.List.Sorted.{IsNonDecreasing}
use Rattle.stream_spec.specs.Numbering.{Numbered}
use Rattle.command_spec.specs.Reading.{usual_wait}
use Rattle.reorder_buffer.specs.declared.answers.Due.{Due}
use Rattle.report_spec.specs.Numbers.{Row, late, missing}
use Rattle.report_spec.specs.Times.{LateNumber, lost_line, number_lines}
use Rattle.rtt_times.specs.declared.stream_packets.TimedPacket.{TimedPacket}
use Rattle.rtt_times.specs.declared.stream_packets.StreamPackets.{StreamPackets}
use Rattle.rtt_times.specs.declared.lines.Lines.{Lines}
use Rattle.rtt_times.specs.Heard.{HasNumbers, came_of}
use Rattle.rtt_times.specs.Lines.{AddsLines, Line, written}

abbrev pub due_number : Due → ℕ
due_number d = d.number

-- one of these has the number
abbrev pub has_due : ℕ → List Due → Bool
has_due n used = list_any (λ d. d.number == n) used

abbrev pub has_one : ℕ → List ℕ → Bool
has_one n numbers = list_any (λ x. x == n) numbers

-- those that came whose number is not used
abbrev pub late_among : List Due → List TimedPacket → List TimedPacket
late_among used came = filter (λ c. not (has_due c.number used)) came

-- these are the numbers of those, and never fall
pub record AreLateNumbers (late : List TimedPacket) (numbers : List ℕ) : Type 0 where
  pub same : (n : ℕ) → has_one n numbers ≡ list_any (λ c. c.number == n) late
  pub rise : IsNonDecreasing numbers

-- those of the stream that came late
abbrev pub IsLate : StreamPackets → List TimedPacket → Type 0
IsLate h came = (past : List Numbered) → HasNumbers h past → came ≡ map came_of (late usual_wait past)

-- numbers rise
abbrev pub AreAbove : List Due → Type 0
AreAbove used = (k : ℕ) (d : Due) → k + 1 < length used
    → due_number (slice_index_or used k d) < due_number (slice_index_or used (k + 1) d)

-- this part has the same numbers from one up to, but without, another
abbrev pub IsPart : ℕ → ℕ → List ℕ → List ℕ → Type 0
IsPart low high all part = (n : ℕ) → low ≤ n → n < high → has_one n part ≡ has_one n all

-- its packets have numbers
abbrev pub AreThere : StreamPackets → Type 0
AreThere h = (past : List Numbered) × HasNumbers h past

-- ---- lines

-- those of rows that were given up at the moment
abbrev pub row_lines : ℕ → ℕ → List Row → List Line
row_lines at ssrc rows = map (λ row. written (lost_line ssrc (record { row = row; at = at }))) rows

-- those of what was lost from one number up to, but without, another, where these came
abbrev pub AddsMissing : ℕ → ℕ → List ℕ → ℕ → ℕ → Lines → Lines → Type 0
AddsMissing at ssrc came low high old new = AddsLines old (row_lines at ssrc (missing (λ n. has_one n came) low (high - low))) new

-- those before a number that came, which is the first of some that never fall, and the rest of them from here on
abbrev pub AddsBefore : ℕ → ℕ → ℕ → ℕ → ℕ → Lines → Lines → ℕ → Type 0
AddsBefore at ssrc low number high old new next =
    (rest : List ℕ) → IsNonDecreasing (number ∷ rest)
    → (rows : List Row) × AddsLines old (row_lines at ssrc rows) new × (missing (λ n. has_one n (number ∷ rest)) low (high - low) ≡ rows ++ missing (λ n. has_one n rest) next (high - next))

-- those of all gaps between numbers that are used
abbrev pub gap_lines : ℕ → List ℕ → List Due → List Line
gap_lines ssrc came [] = []
gap_lines ssrc came (d ∷ []) = []
gap_lines ssrc came (d ∷ e ∷ used) =
    row_lines e.ready ssrc (missing (λ n. has_one n came) (suc d.number) (e.number - suc d.number)) ++ gap_lines ssrc came (e ∷ used)

-- those of what came late
abbrev pub came_line : ℕ → TimedPacket → Line
came_line ssrc c = written (record { at = c.time; ssrc = ssrc; told = LateNumber c.number })

abbrev pub late_lines : ℕ → List TimedPacket → List Line
late_lines ssrc came = map (came_line ssrc) came

abbrev pub AddsNumbers : ℕ → StreamPackets → Lines → Lines → Type 0
AddsNumbers ssrc h old new = (past : List Numbered) → HasNumbers h past
    → AddsLines old (map written (number_lines ssrc past)) new
