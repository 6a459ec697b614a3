use Rattle.std.proofs.Common.{◌≤◌, length}
use Rattle.rtcp_labels.proofs.Packets.{Left}
use Rattle.rtcp_labels.proofs.readers.read_packets.Given as goal

-- the packets so far and those of the rest are all
abbrev pub invariant-loop-rest : goal.invariant-loop-rest
invariant-loop-rest l = Left l.out.items l.rest l.bytes × (length l.out.items ≤ 64)

abbrev pub decreases-loop-rest : goal.decreases-loop-rest
decreases-loop-rest l = length l.rest
