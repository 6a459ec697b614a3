-- What is found out of the packets of a stream or of a pair.
use Rattle.std.specs.Prelude.{◌≡◌, ℕ, ◌≤◌, suc, Bool, true, false, List, [], ◌∷◌, ◌++◌, map, slice_index, slice_set, All, min, max, Result, Ok, Err}
use Rattle.rtt_base.specs.declared.text_packets.PayloadTypes.{PayloadTypes}
use Rattle.wire_spec.specs.declared.faults.TextFault.{TextFault}
use Rattle.wire_spec.specs.declared.faults.TextFault.TheVariants.{Long, NotText, Foreign}
use Rattle.wire_spec.specs.Packets.{Packet}
use Rattle.wire_spec.specs.Dump.{Item}
use Rattle.rtp_text.specs.Headers.{reading}
use Rattle.command_spec.specs.Firsts.{Firsts, with_name}
use Rattle.command_spec.specs.Streams.{Sort}
use Rattle.command_spec.specs.Streams as sorts
use Rattle.report_spec.specs.Showing.{numbers_of}
use Rattle.command_spec.specs.Showing.{refusals, place_of, hearing, least_time, greatest_time, refused_as}
use Rattle.rtt_show.specs.declared.surveys.Survey.{Survey}
use Rattle.rtt_show.specs.declared.record_kinds.RecordKind.{RecordKind}
use Rattle.rtt_show.specs.declared.record_kinds.RecordKind.TheVariants.{Headed, NoRtp, Rtcp}
use Rattle.rtt_show.specs.declared.first_sources.FirstSources.{FirstSources}
use Rattle.rtt_show.specs.declared.origins.Origin.{Origin}
use Rattle.rtt_show.specs.declared.spreads.Spread.{Spread}
use Rattle.rtt_show.specs.Spreads.{IsSpread, IsNarrow, SpreadsBy}

-- ---- one packet

abbrev pub sorted : RecordKind → Sort
sorted (Headed view) = sorts.Headed (reading view)
sorted NoRtp = sorts.NoRtp
sorted Rtcp = sorts.Rtcp

-- the source and the sequence number of a packet of text, or why it is none
abbrev pub seen : Result Packet TextFault → Result Origin TextFault
seen (Ok packet) = Ok (record { source = packet.source; seq = packet.seq })
seen (Err fault) = Err fault

abbrev pub is_like : Result Origin TextFault → Bool
is_like (Ok origin) = true
is_like (Err Long) = true
is_like (Err NotText) = true
is_like (Err _) = false

abbrev pub is_read : Result Origin TextFault → Bool
is_read (Ok origin) = true
is_read (Err fault) = false

-- ---- sources

abbrev pub firsts_of : FirstSources → Firsts
firsts_of s = record { kept = s.kept.items; others = s.others }

-- ---- the packets of a stream

-- all refusals, and behind them that of a foreign packet
abbrev pub all_faults : List TextFault
all_faults = refusals ++ Foreign ∷ []

-- what was found out of these packets of the stream
pub record IsSurvey (payload_types : PayloadTypes) (ssrc : ℕ) (s : Survey) (came : List Item) : Type 0 where
  pub from : s.from ≡ least_time came
  pub to : s.to ≡ greatest_time came
  pub refused : s.refused ≡ map (refused_as (hearing payload_types ssrc) came) all_faults
  pub sources : firsts_of s.sources ≡ sorts.sources ssrc payload_types came
  pub spread : IsSpread s.spread (numbers_of payload_types ssrc came)

-- no count is greater
pub record IsFew (n : ℕ) (s : Survey) : Type 0 where
  pub others : s.sources.others ≤ n
  pub refused : All (λ count. count ≤ n) s.refused
  pub narrow : IsNarrow n s.spread

abbrev pub refused_after : List ℕ → Result Origin TextFault → List ℕ
refused_after counts (Ok origin) = counts
refused_after counts (Err fault) = slice_set counts (place_of fault) (suc (slice_index counts (place_of fault)))

abbrev pub names_after : Firsts → Result Origin TextFault → Firsts
names_after f (Ok origin) = with_name f origin.source
names_after f (Err fault) = f

-- a packet of text has a number
abbrev pub SpreadsAs : Spread → Result Origin TextFault → Spread → Type 0
SpreadsAs old (Ok origin) new = (number : ℕ) × SpreadsBy old origin.seq number new
SpreadsAs old (Err fault) new = new ≡ old

-- a packet came besides, with a text from there or none
pub record SurveysMore (old : Survey) (at : ℕ) (read : Result Origin TextFault) (new : Survey) : Type 0 where
  pub from : new.from ≡ min old.from at
  pub to : new.to ≡ max old.to at
  pub refused : new.refused ≡ refused_after old.refused read
  pub sources : firsts_of new.sources ≡ names_after (firsts_of old.sources) read
  pub spread : SpreadsAs old.spread read new.spread
