-- What a divider stands for: the packets that came, and for each source the recording of what is heard of it by them.
use Rattle.std.specs.Prelude.{◌≡◌, ℕ, ◌<◌, ◌^◌, false, None, Some, List, [], length, map, slice_index, slice_index_or}
use Rattle.rtt_base.specs.declared.text_packets.PayloadTypes.{PayloadTypes}
use Rattle.wire_spec.specs.Packets.{Arrival}
use Rattle.wire_spec.specs.Dump.{arrived}
use Rattle.wire_spec.specs.Text.{text_of}
use Rattle.reorder_buffer.specs.Stories.{Story}
use Rattle.reorder_buffer.specs.Tracks.{Tracks}
use Rattle.reorder_buffer.specs.States.{has_ready, is_finished}
use Rattle.receiver.specs.Stands.{Stands, latest_number}
use Rattle.receiver.specs.Hears.{IsToldOf, all_given, last_after, ready_packets}
use Rattle.mixer_spec.specs.Laws.{AreShortArrivals}
use Rattle.command_spec.specs.Splitting.{Trunk, chunks_of, split}
use Rattle.cascade.specs.declared.splitters.SourceRecording.{SourceRecording}
use Rattle.cascade.specs.declared.dividers.Demux.{Demux}
use Rattle.cascade.specs.Splitters.{Closes, Splits}
use Rattle.cascade.specs.Dividing.{AreSplit}

-- Its buffer was told and gave what the story says, its receiver took that, and so did the recordings.
pub record Hears (d : Demux) (t : Trunk) (sources : List ℕ) (story : Story) : Type 0 where
  pub ssrc : d.ssrc ≡ t.ssrc
  pub types : d.payload_types ≡ t.payload_types
  pub t140 : t.payload_types.t140 < 2 ^ 7
  pub wait : story.wait ≡ t.wait
  pub tracks : Tracks d.buffer story
  pub stands : Stands d.receiver sources (ready_packets story.given)
  pub latest : latest_number d.receiver ≡ last_after None (ready_packets story.given)
  pub short : AreShortArrivals story.past
  pub split_off : AreSplit t.payload_types sources (ready_packets story.given) d.splitters.items

abbrev pub IsHearing : Demux → Type 0
IsHearing d = (t : Trunk) × (sources : List ℕ) × (story : Story) × Hears d t sources story

-- these packets came, newest first, and more may come
pub record Listens (d : Demux) (t : Trunk) (sources : List ℕ) (past : List Arrival) : Type 0 where
  pub story : Story
  pub hears : Hears d t sources story
  pub told : IsToldOf story past
  pub quiet : has_ready d.buffer ≡ false
  pub open_still : is_finished d.buffer ≡ false

abbrev pub IsListening : Demux → Type 0
IsListening d = (t : Trunk) × (sources : List ℕ) × (past : List Arrival) × Listens d t sources past

-- ---- the steps

-- recordings of which each has no packet
abbrev pub IsStarted : PayloadTypes → List ℕ → List SourceRecording → Type 0
IsStarted payload_types sources splitters =
    (length splitters ≡ length sources) × ((k : ℕ) (d : SourceRecording) → k < length sources → Splits (slice_index_or splitters k d) payload_types (slice_index sources k) [])

-- each recording is whole
abbrev pub ClosesAll : List SourceRecording → List SourceRecording → Type 0
ClosesAll old new = (length new ≡ length old) × ((k : ℕ) (d : SourceRecording) → k < length old → Closes (slice_index_or old k d) (slice_index_or new k d))

-- all that is ready was given
abbrev pub Gathers : Demux → Demux → Type 0
Gathers old new = (t : Trunk) (sources : List ℕ) (story : Story) → Hears old t sources story
    → Hears new t sources (all_given story)

-- the octets came at `now`
abbrev pub Takes : Demux → Demux → ℕ → List ℕ → Type 0
Takes old new now octets =
    (t : Trunk) (sources : List ℕ) (past : List Arrival) → Listens old t sources past
    → Listens new t sources (arrived now (text_of octets (Some t.ssrc) t.payload_types) past)

-- to the recording of each source all was added that is heard of it by these arrivals, but for keep-alives
pub record AreAdded (t : Trunk) (sources : List ℕ) (past : List Arrival) (splitters : List SourceRecording) : Type 0 where
  pub t140 : t.payload_types.t140 < 2 ^ 7
  pub each : length splitters ≡ length sources
  pub splits : (k : ℕ) (d : SourceRecording) → k < length sources
      → Splits (slice_index_or splitters k d) t.payload_types (slice_index sources k) (chunks_of t.wait past (slice_index sources k))

-- nothing comes any more: what is heard of each source was added
abbrev pub Ends : Demux → Demux → Type 0
Ends old new =
    (t : Trunk) (sources : List ℕ) (past : List Arrival) → Listens old t sources past
    → AreAdded t sources past new.splitters.items

abbrev pub SplitsAll : Demux → List SourceRecording → Type 0
SplitsAll d splitters =
    (t : Trunk) (sources : List ℕ) (past : List Arrival) → Listens d t sources past
    → map (λ s. s.octets) splitters ≡ map (split t.payload_types t.wait past) sources
