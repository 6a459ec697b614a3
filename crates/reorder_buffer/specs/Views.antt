-- What the parts of a hold stand for, by the packets at their places.
use Rattle.std.specs.Prelude.{ℕ, ◌+◌, ◌-◌, ◌^◌, ◌<◌, ◌≤◌, ◌==◌, List, [], ◌∷◌, ◌++◌, map, slice_index_or, if◌then◌else◌}
use Rattle.wire_spec.specs.Packets.{packet_of}
use Rattle.rtt_base.specs.declared.text_packets.TextPacket.{TextPacket}
use Rattle.stream_spec.specs.Numbering.{Numbered, nearest}
use Rattle.reorder_buffer.specs.Pools.{packet_at}
use Rattle.reorder_buffer.specs.Stories.{Given}
use Rattle.reorder_buffer.specs.States.{State}
use Rattle.reorder_buffer.specs.declared.holds.HeldPacket.{HeldPacket}
use Rattle.reorder_buffer.specs.declared.holds.SettledPacket.{SettledPacket}

abbrev pub numbered_in : List TextPacket → HeldPacket → Numbered
numbered_in packets x = record { time = x.time; number = x.number; packet = packet_of (packet_at packets x.place) }

abbrev pub settled_in : List TextPacket → SettledPacket → Given
settled_in packets x = record { number = x.number; ready = x.ready; packet = packet_of (packet_at packets x.place) }

-- this holds of what is held, whatever the packets are
abbrev pub AnyPackets : List HeldPacket → (List Numbered → Type 0) → Type 0
AnyPackets held P = (packets : List TextPacket) → P (map (numbered_in packets) held)

-- what stands before the place has no greater number
abbrev pub IsBehind : List HeldPacket → ℕ → ℕ → Type 0
IsBehind held place number = (d : HeldPacket) → 0 < place → (slice_index_or held (place - 1) d).number ≤ number

abbrev pub held_place : HeldPacket → ℕ
held_place x = x.place

abbrev pub settled_place : SettledPacket → ℕ
settled_place x = x.place

-- the places of what is settled, and then of what is held
abbrev pub places_of : List SettledPacket → List HeldPacket → List ℕ
places_of settled held = map settled_place settled ++ map held_place held

-- small enough to be added to
abbrev pub AreSmall : List HeldPacket → Type 0
AreSmall [] = Unit {0}
AreSmall (x ∷ xs) = (x.number < 2 ^ 60) × AreSmall xs

-- the number that a packet has that comes next
abbrev pub next_number : State → ℕ → ℕ
next_number s seq = if s.arrivals == 0 then seq + 65536 else nearest s.top seq
