use Rattle.std.proofs.Common.{◌≡◌, ◌≤◌, List, drop, map}
use Rattle.rtt_base.specs.declared.text_packets.TextPacket.{TextPacket}
use Rattle.reorder_buffer.specs.States.{oldest_from}
use Rattle.reorder_buffer.specs.Views.{numbered_in}
use Rattle.reorder_buffer.proofs.holds.oldest_time.Given as goal

abbrev pub invariant-loop-packet : goal.invariant-loop-packet
invariant-loop-packet l = record { value : (packets : List TextPacket) → oldest_from l.least (map (numbered_in packets) (drop l.packet-index l.held)) ≡ oldest_from l.fn.time (map (numbered_in packets) l.held); within : l.least ≤ l.fn.time }
