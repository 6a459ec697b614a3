-- What a splitter stands for: the chunks of its source that were added, written as a recording, but for the group in hand.
use Rattle.std.specs.Prelude.{◌≡◌, ℕ, ◌+◌, ◌%◌, ◌^◌, true, false, List, [], ◌∷◌, ◌++◌, map, if◌then◌else◌}
use Rattle.std.specs.List.{flat_map}
use Rattle.rtt_base.specs.declared.text_packets.PayloadTypes.{PayloadTypes}
use Rattle.wire_spec.specs.Packets.{Arrival}
use Rattle.wire_spec.specs.Dump.{record_written}
use Rattle.stream_spec.specs.Ready.{Chunk}
use Rattle.command_spec.specs.Splitting.{Group, groups, groups_from, joins, moment_of, packet_of, packets_from, packets_in, record_of, recorded, timestamp_of}
use Rattle.cascade.specs.declared.splitters.SourceRecording.{SourceRecording}

-- the octets of the records of these packets
abbrev pub records_in : PayloadTypes → List Arrival → List ℕ
records_in payload_types packets = flat_map record_written (map (record_of payload_types) packets)

-- the group in hand
abbrev pub hand_of : SourceRecording → Group
hand_of sp = record { ready = sp.ready; text = sp.text }

-- the groups that are still to be written, where these chunks are still to come
abbrev pub groups_with : SourceRecording → List Chunk → List Group
groups_with sp more = if sp.holds then groups_from (hand_of sp) more else groups more

-- These chunks of the source s were added: whichever come behind them, what stands there is the front of the recording.
pub record Splits (sp : SourceRecording) (payload_types : PayloadTypes) (s : ℕ) (cs : List Chunk) : Type 0 where
  pub source : sp.source ≡ s
  pub types : sp.payload_types ≡ payload_types
  pub writes : (more : List Chunk) → recorded payload_types (packets_in s (groups (cs ++ more)))
      ≡ sp.octets ++ records_in payload_types (packets_from s sp.seq sp.least (groups_with sp more))

-- one chunk was added
abbrev pub AddsChunk : SourceRecording → SourceRecording → Chunk → Type 0
AddsChunk old new c = (payload_types : PayloadTypes) (s : ℕ) (cs : List Chunk) → Splits old payload_types s cs
    → Splits new payload_types s (cs ++ c ∷ [])

-- the recording is whole
abbrev pub Closes : SourceRecording → SourceRecording → Type 0
Closes old new = (payload_types : PayloadTypes) (s : ℕ) (cs : List Chunk) → Splits old payload_types s cs
    → new.octets ≡ recorded payload_types (packets_in s (groups cs))

-- ---- the steps

-- the chunk was put behind the group in hand
pub record Joins (old new : SourceRecording) (c : Chunk) : Type 0 where
  pub fits : joins (hand_of old) c ≡ true
  pub is : new ≡ record old { text = old.text ++ c.text }

-- it was not, since it does not join
pub record Parts (old new : SourceRecording) (c : Chunk) : Type 0 where
  pub apart : joins (hand_of old) c ≡ false
  pub same : new ≡ old

-- the packet of the group in hand, with the moment of its record
abbrev pub packet_in_hand : SourceRecording → Arrival
packet_in_hand sp =
    record { time = moment_of (hand_of sp); packet = packet_of sp.source sp.seq (timestamp_of sp.least (hand_of sp)) sp.text }

-- the group in hand was written
pub record Writes (old new : SourceRecording) : Type 0 where
  pub octets : new.octets ≡ old.octets ++ record_written (record_of old.payload_types (packet_in_hand old))
  pub seq : new.seq ≡ (old.seq + 1) % 2 ^ 16
  pub least : new.least ≡ (timestamp_of old.least (hand_of old) + 1) % 2 ^ 32
  pub source : new.source ≡ old.source
  pub payload_types : new.payload_types ≡ old.payload_types
