-- Lines as they are kept until all are there.
use Rattle.std.specs.Prelude.{◌≡◌, ℕ, ◌+◌, ◌^◌, ◌<◌, ◌≤◌, List, [], ◌∷◌, ◌++◌, map, length, take, drop, codes, All}
use Rattle.stream_spec.specs.Ready.{Chunk}
use Rattle.view_spec.specs.Views.{printed_line}
use Rattle.command_spec.specs.declared.requests.ReadRequest.{ReadRequest}
use Rattle.command_spec.specs.Transcripts.{escaped}
use Rattle.report_spec.specs.Ordered.{ordered_by}
use Rattle.report_spec.specs.Times as times
use Rattle.report_spec.specs.Times.{told_text, name_of, chunk_lines, day_of, day_line, time_text}
use Rattle.rtt_times.specs.declared.lines.Span.{Span}
use Rattle.rtt_times.specs.declared.lines.Lines.{Lines}

-- a line: its moment, and what stands behind the time of day, with its line feed
pub record Line : Type 0 where
  pub at : ℕ
  pub text : List ℕ

abbrev pub line_in : List ℕ → Span → Line
line_in octets span = record { at = span.at; text = drop span.from (take span.to octets) }

-- a line lies within the octets
abbrev pub LiesIn : List ℕ → Span → Type 0
LiesIn octets span = (span.from ≤ span.to) × (span.to ≤ length octets)

-- these lines are kept, in this order
pub record Keeps (l : Lines) (lines : List Line) : Type 0 where
  pub lie : All (LiesIn l.octets) l.spans.items
  pub are : map (line_in l.octets) l.spans.items ≡ lines

-- these lines more are kept
abbrev pub AddsLines : Lines → List Line → Lines → Type 0
AddsLines old more new = (lines : List Line) → Keeps old lines → Keeps new (lines ++ more)

-- what was appended from here on is a line more
pub record KeepsFrom (at from : ℕ) (old new : Lines) : Type 0 where
  pub octets : new.octets ≡ old.octets
  pub spans : new.spans.items ≡ old.spans.items ++ record { at = at; from = from; to = length old.octets } ∷ []

-- ---- what is written

-- a line as it is kept
abbrev pub written : times.Line → Line
written l = record { at = l.at; text = printed_line (told_text l.ssrc l.told) }

-- those of a text of the source that is asked for
abbrev pub chunk_written : ReadRequest → Chunk → List Line
chunk_written r c = map written (chunk_lines r.ssrc r.source c)

-- how the source is named, and a space
abbrev pub name_before : ReadRequest → List ℕ
name_before r = name_of r.ssrc r.source ++ codes " "

abbrev pub line_with : List ℕ → List ℕ → List ℕ
line_with name [] = []
line_with name (x ∷ xs) = printed_line (name ++ (x ∷ xs))

-- the line of a text, unless nothing is left of it
abbrev pub said_line : List ℕ → List ℕ → List ℕ
said_line name text = line_with name (escaped text)

abbrev pub at_of : Line → ℕ
at_of l = l.at

-- the lines of a text were added, behind this name
abbrev pub AddsText : List ℕ → Chunk → Lines → Lines → Type 0
AddsText name c old new = (r : ReadRequest) → name ≡ name_before r → AddsLines old (chunk_written r c) new

-- the same lines are kept, in the order of their moments
abbrev pub Sorts : Lines → Lines → Type 0
Sorts old new = (lines : List Line) → Keeps old lines → Keeps new (ordered_by at_of lines)

-- lines are kept, all of moments below 2^48
abbrev pub AreEarly : Lines → Type 0
AreEarly l = (lines : List Line) × Keeps l lines × All (λ line. line.at < 2 ^ 48) lines

-- ---- what is printed

-- the day where it is another, the time, and the line
abbrev pub timed_line : ℕ → ℕ → List ℕ → List ℕ
timed_line day moment text = day_line day (day_of moment) ++ ((time_text moment ++ 0x20 ∷ []) ++ text)

-- the lines with their times, from this day on
abbrev pub timed_written : ℕ → ℕ → List Line → List ℕ
timed_written start day [] = []
timed_written start day (l ∷ lines) = timed_line day (start + l.at) l.text ++ timed_written start (day_of (start + l.at)) lines

-- the lines that are kept were appended with their times
abbrev pub IsTimed : Lines → ℕ → List ℕ → List ℕ → Type 0
IsTimed l start old new = (lines : List Line) → Keeps l lines → new ≡ old ++ timed_written start (day_of start) lines
