-- What a recording of a mixer's packets is split into: for each of its sources a recording of that source's own packets, so
-- that another mixer may hear it as the recording of a leg (profile). To a mixer keep-alives are no text.
use Rattle.std.specs.Prelude.{ℕ, ◌+◌, ◌^◌, ◌%◌, ◌==◌, ◌&&◌, Bool, false, List, [], ◌∷◌, ◌++◌, length, map, max, min, nat_le, if◌then◌else◌}
use Rattle.rtt_base.specs.declared.text_packets.PayloadTypes.{PayloadTypes}
use Rattle.wire_spec.specs.Packets.{Packet, Arrival}
use Rattle.wire_spec.specs.SentPackets.{packet_written}
use Rattle.wire_spec.specs.Dump.{arrivals_after, dump, dump_written}
use Rattle.stream_spec.specs.Ready.{Chunk, chunks}
use Rattle.stream_spec.specs.Still.{still}
use Rattle.rtt_base.specs.declared.limits.TheConstants.{MOST_TEXT_OCTETS}
use Rattle.wire_spec.specs.declared.limits.TheConstants.{LAST_RECORD_MOMENT}

-- ---- texts of one moment

-- texts that are ready at one moment, put together
pub record Group : Type 0 where
  pub ready : ℕ
  pub text : List ℕ

abbrev pub alone : Chunk → Group
alone c = record { ready = c.ready; text = c.text }

-- the chunk is ready at the group's moment, and its text fits behind the group's
abbrev pub joins : Group → Chunk → Bool
joins g c = (g.ready == c.ready) && nat_le (length g.text + length c.text) MOST_TEXT_OCTETS

abbrev pub joined : Group → Chunk → Group
joined g c = record { ready = g.ready; text = g.text ++ c.text }

-- the group goes on for as long as the next chunk joins it
abbrev pub groups_from : Group → List Chunk → List Group
groups_from g [] = g ∷ []
groups_from g (c ∷ cs) = if joins g c then groups_from (joined g c) cs else g ∷ groups_from (alone c) cs

-- the chunks in their order, neighbours of one moment put together into the longest groups
abbrev pub groups : List Chunk → List Group
groups [] = []
groups (c ∷ cs) = groups_from (alone c) cs

-- ---- one packet for each

-- the moment of its record: a recording has no later one
abbrev pub moment_of : Group → ℕ
moment_of g = min g.ready LAST_RECORD_MOMENT

-- the packet of a group: the source's own, in plain form
abbrev pub packet_of : ℕ → ℕ → ℕ → List ℕ → Packet
packet_of s seq timestamp text =
    record { marker_bit = false; seq = seq; timestamp = timestamp; ssrc = s; source = s; older = []; primary = text }

-- its timestamp: the moment of its record, or `least`, where that is later
abbrev pub timestamp_of : ℕ → Group → ℕ
timestamp_of least g = max (moment_of g) least

-- The packets from this sequence number on, of which the first is stamped with `least` or later. Each next has the next number,
-- and is stamped later than the one before; numbers and timestamps go round.
abbrev pub packets_from : ℕ → ℕ → ℕ → List Group → List Arrival
packets_from s seq least [] = []
packets_from s seq least (g ∷ gs) =
    record { time = moment_of g; packet = packet_of s seq (timestamp_of least g) g.text }
    ∷ packets_from s ((seq + 1) % 2 ^ 16) ((timestamp_of least g + 1) % 2 ^ 32) gs

abbrev pub packets_in : ℕ → List Group → List Arrival
packets_in s gs = packets_from s 0 0 gs

-- ---- the split of one source

-- what is heard of the source s, but for keep-alives
abbrev pub chunks_of : ℕ → List Arrival → ℕ → List Chunk
chunks_of wait past s = chunks wait 0 (still past) s

abbrev pub split_packets : ℕ → List Arrival → ℕ → List Arrival
split_packets wait past s = packets_in s (groups (chunks_of wait past s))

abbrev pub record_of : PayloadTypes → Arrival → ℕ × List ℕ
record_of payload_types a = (a.time, packet_written payload_types a.packet)

-- the records of these packets, as a recording has them
abbrev pub recorded : PayloadTypes → List Arrival → List ℕ
recorded payload_types packets = dump_written (map (record_of payload_types) packets)

-- the recording of the source s out of these arrivals, newest first
unfoldable pub split : PayloadTypes → ℕ → List Arrival → ℕ → List ℕ
split payload_types wait past s = recorded payload_types (split_packets wait past s)

-- ---- of a recording

-- how a recording is read that a mixer sent: under which SSRC, with which payload types, how long a gap in the numbers is
-- waited for, in milliseconds, and how many octets it may have
pub record Trunk : Type 0 where
  pub ssrc : ℕ
  pub payload_types : PayloadTypes
  pub wait : ℕ
  pub limit : ℕ

-- what comes of the recording, newest first
abbrev pub came_of : Trunk → List ℕ → List Arrival
came_of t octets = arrivals_after t.ssrc t.payload_types [] (dump t.limit octets).items

-- the splits of these sources, in their order
abbrev pub splits : Trunk → List ℕ → List ℕ → List (List ℕ)
splits t sources octets = map (split t.payload_types t.wait (came_of t octets)) sources
