use Rattle.std.proofs.Common.{◌≤◌, List, drop, length, map}
use Rattle.rtt_base.specs.declared.text_packets.TextPacket.{TextPacket}
use Rattle.reorder_buffer.specs.States.{AllAbove}
use Rattle.reorder_buffer.specs.Views.{numbered_in}
use Rattle.reorder_buffer.proofs.holds.place_of.Given as goal

abbrev pub invariant-loop-place : goal.invariant-loop-place
invariant-loop-place l = record { within : l.place ≤ length l.held; above : (packets : List TextPacket) → AllAbove l.number (drop l.place (map (numbered_in packets) l.held)) }

abbrev pub decreases-loop-place : goal.decreases-loop-place
decreases-loop-place l = l.place
