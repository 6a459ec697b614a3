-- What is noted of what came of a link, and what arrives out of its files (profile). Takes, entries and arrivals stand newest
-- first.
use Rattle.std.specs.Prelude.{ℕ, ◌+◌, List, [], ◌∷◌, map, flat_map, reverse}
use Rattle.rtt_base.specs.declared.text_packets.PayloadTypes.{PayloadTypes}
use Rattle.wire_spec.specs.Packets.{Arrival}
use Rattle.wire_spec.specs.Dump.{arrivals}
use Rattle.stream_spec.specs.Links.{Came, Datagram, Large, Quiet, Closed, Takes}
use Rattle.live_spec.specs.Recorded.{Entry, Part, Parts, part_written}

-- The octets of a datagram that is longer than a packet may be are not known.
abbrev pub with_came : ℕ → Came → List Entry → List Entry
with_came t (Datagram octets) past = record { at = t; octets = octets } ∷ past
with_came t Large past = past
with_came t Quiet past = past
with_came t Closed past = past

-- the datagrams of these takes
abbrev pub datagrams : Takes → List Entry
datagrams [] = []
datagrams (a ∷ past) = with_came a.at a.came (datagrams past)

-- ---- what arrives

abbrev pub later : ℕ → Arrival → Arrival
later t a = record { time = t + a.time; packet = a.packet }

-- of a stream out of a file, by the clock of the links
abbrev pub part_arrivals : ℕ → ℕ → PayloadTypes → Part → List Arrival
part_arrivals start ssrc payload_types p = map (later p.begins) (arrivals (part_written start p) ssrc payload_types)

-- out of all files
abbrev pub parts_arrivals : ℕ → ℕ → PayloadTypes → Parts → List Arrival
parts_arrivals start ssrc payload_types ps = flat_map (part_arrivals start ssrc payload_types) (ps.last ∷ reverse ps.over)
