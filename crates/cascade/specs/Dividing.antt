-- What is heard of packets goes into the recordings of their sources.
use Rattle.std.specs.Prelude.{◌≡◌, ℕ, ◌<◌, List, [], ◌∷◌, ◌++◌, length, map, filter, slice_index, slice_index_or}
use Rattle.rtt_base.specs.declared.text_packets.PayloadTypes.{PayloadTypes}
use Rattle.rtt_base.specs.declared.text_packets.TextPacket.{TextPacket}
use Rattle.stream_spec.specs.Numbering.{Numbered}
use Rattle.stream_spec.specs.Ready.{Chunk, chunk}
use Rattle.stream_spec.specs.ChunksBy.{chunks_by}
use Rattle.stream_spec.specs.Still.{is_lively_chunk}
use Rattle.reorder_buffer.specs.declared.answers.Due.{Due}
use Rattle.receiver.specs.declared.receivers.Receiver.{Receiver}
use Rattle.receiver.specs.Stands.{Stands, used_packet}
use Rattle.cascade.specs.declared.splitters.SourceRecording.{SourceRecording}
use Rattle.cascade.specs.Splitters.{Splits}

-- these texts were added, all ready at one moment, but for keep-alives
abbrev pub AddsTexts : SourceRecording → SourceRecording → ℕ → List (List ℕ) → Type 0
AddsTexts old new ready texts =
    (payload_types : PayloadTypes) (s : ℕ) (cs : List Chunk) → Splits old payload_types s cs
    → Splits new payload_types s (cs ++ filter is_lively_chunk (map (chunk 0 ready) texts))

-- what is heard of the source by these used packets, which bear the moments at which they are ready, but for keep-alives
abbrev pub lively_by : List Numbered → ℕ → List Chunk
lively_by us s = filter is_lively_chunk (chunks_by 0 us s)

-- there is a recording for each of the sources, of what is heard of it by these used packets
pub record AreSplit (payload_types : PayloadTypes) (sources : List ℕ) (us : List Numbered) (splitters : List SourceRecording) : Type 0 where
  pub each : length splitters ≡ length sources
  pub splits : (k : ℕ) (d : SourceRecording) → k < length sources
      → Splits (slice_index_or splitters k d) payload_types (slice_index sources k) (lively_by us (slice_index sources k))

-- the packet that was due, where it is used
abbrev pub due_packet : Due → TextPacket → Numbered
due_packet due p = used_packet due.ready due.number p

-- the receiver took it
abbrev pub TakesDue : Receiver → Receiver → Due → TextPacket → Type 0
TakesDue old new due p = (sources : List ℕ) (us : List Numbered) → Stands old sources us
    → Stands new sources (us ++ due_packet due p ∷ [])

-- what is heard of it was added
abbrev pub Divides : Receiver → List SourceRecording → List SourceRecording → Due → TextPacket → Type 0
Divides old before after due p =
    (payload_types : PayloadTypes) (sources : List ℕ) (us : List Numbered) → Stands old sources us
    → AreSplit payload_types sources us before → AreSplit payload_types sources (us ++ due_packet due p ∷ []) after
