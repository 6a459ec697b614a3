-- Packets of a stream that come in a row.
use Rattle.std.specs.Prelude.{◌≡◌, ℕ, ◌+◌, ◌%◌, ◌^◌, ◌<◌, ◌==◌, Option, List, [], ◌∷◌, length, min, max, Ok, if◌then◌else◌}
use Rattle.rtt_base.specs.declared.text_packets.PayloadTypes.{PayloadTypes}
use Rattle.wire_spec.specs.declared.faults.TextFault.{TextFault}
use Rattle.wire_spec.specs.Packets.{Packet}
use Rattle.wire_spec.specs.Text.{text_of}
use Rattle.wire_spec.specs.Dump.{Item, arrivals_after}
use Rattle.stream_spec.specs.Numbering.{Numbered, numbered}
use Rattle.command_spec.specs.Firsts.{Firsts, firsts}
use Rattle.command_spec.specs.Streams.{sources}
use Rattle.command_spec.specs.Showing.{hearing, least_time, greatest_time, refused_as}
use Rattle.rtt_show.specs.declared.origins.Origin.{Origin}
use Rattle.rtt_show.specs.declared.rows.Row.{Row}
use Rattle.rtt_show.specs.declared.surveys.Survey.{Survey}
use Rattle.rtt_show.specs.Surveys.{IsSurvey}

-- if the octets are a packet of text, it is from there
abbrev pub IsOrigin : Origin → List ℕ → Type 0
IsOrigin o octets = (asked : Option ℕ) (payload_types : PayloadTypes) (p : Packet)
    → text_of octets asked payload_types ≡ Ok p → (p.source ≡ o.source) × (p.seq ≡ o.seq)

-- where the row begins: at a packet from there, if none came yet
abbrev pub begin_of : Row → Origin → Origin
begin_of row origin = if row.packets == 0 then origin else record { source = row.source; seq = row.first }

-- a packet came besides, which is next
pub record RowsMore (old : Row) (at : ℕ) (origin : Origin) (new : Row) : Type 0 where
  pub packets : new.packets ≡ old.packets + 1
  pub from : new.from ≡ min old.from at
  pub to : new.to ≡ max old.to at
  pub source : new.source ≡ origin.source
  pub seq : origin.seq ≡ (new.first + old.packets) % 65536
  pub small : new.first < 2 ^ 16
  pub still : 0 < old.packets → (new.source ≡ old.source) × (new.first ≡ old.first)

-- each of these has the number behind that of the one before it, the oldest this one; newest first
abbrev pub Ascends : ℕ → List Numbered → Type 0
Ascends first [] = Unit {0}
Ascends first (e ∷ past) = (e.number ≡ first + length past) × Ascends first past

-- each is a packet of text of the stream
abbrev pub AreTexts : ℕ → PayloadTypes → List Item → Type 0
AreTexts ssrc payload_types came = length (arrivals_after ssrc payload_types [] came) ≡ length came

-- none but this source was named
abbrev pub only : ℕ → List Item → Firsts
only source [] = firsts []
only source (item ∷ came) = firsts (source ∷ [])

-- the numbers of the stream are those of the row, its source is that, and nothing is refused
pub record IsStraight (row : Row) (ssrc : ℕ) (payload_types : PayloadTypes) (came : List Item) : Type 0 where
  pub numbers : Ascends (row.first + 65536) (numbered (arrivals_after ssrc payload_types [] came))
  pub sources : sources ssrc payload_types came ≡ only row.source came
  pub refused : (fault : TextFault) → refused_as (hearing payload_types ssrc) came fault ≡ 0

-- these packets come in the row, if each is one of text of the stream
pub record IsRow (row : Row) (came : List Item) : Type 0 where
  pub packets : row.packets ≡ length came
  pub from : row.from ≡ least_time came
  pub to : row.to ≡ greatest_time came
  pub straight : (ssrc : ℕ) (payload_types : PayloadTypes) → AreTexts ssrc payload_types came
      → IsStraight row ssrc payload_types came

-- this is what is found out of packets that come in the row, if each is one of text of the stream
abbrev pub SurveysRow : Row → Survey → Type 0
SurveysRow row s = (payload_types : PayloadTypes) (ssrc : ℕ) (came : List Item) → IsRow row came
    → AreTexts ssrc payload_types came → IsSurvey payload_types ssrc s came
