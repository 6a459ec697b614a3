-- Who holds the current packet of a pool, a hold or a buffer writes through it.
use Rattle.std.specs.Borrow.{Lends, MutBor, Fml}
use Rattle.rtt_base.specs.declared.text_packets.TextPacket.{TextPacket}
use Rattle.rtt_base.specs.contracts.text_packets.TextPacket.{the_row as packet}
use Rattle.reorder_buffer.specs.Pools.{Pool, with_current}
use Rattle.reorder_buffer.specs.States.{State, with_packet}
use Rattle.reorder_buffer.specs.contracts.pool.PacketPool.{the_row as pool}
use Rattle.reorder_buffer.specs.contracts.holds.Hold.{the_row as hold}
use Rattle.reorder_buffer.specs.contracts.buffers.ReorderBuffer.{the_row as buffer}

-- the pool ends with what is last written through r as its current packet
abbrev pub LendsCurrent : MutBor Pool → MutBor TextPacket → Fml
LendsCurrent p r = Lends pool packet p r (with_current p.now)

-- a hold ends with it
abbrev pub LendsHeld : MutBor State → MutBor TextPacket → Fml
LendsHeld s r = Lends hold packet s r (with_packet s.now)

-- a buffer ends with it
abbrev pub LendsPacket : MutBor State → MutBor TextPacket → Fml
LendsPacket s r = Lends buffer packet s r (with_packet s.now)
