use Rattle.reorder_buffer.proofs.Apart.{current_within}
use Rattle.reorder_buffer.proofs.holds.Hold.packet.Goals as goal

pub packet-requires : goal.packet-requires
packet-requires c = current_within c.self.inside c.self.invariant.apart
