use Rattle.packetizer.proofs.Scripts.{end_sent, end_closed}
use Rattle.packetizer.proofs.sender_laws.end_is_closed.Goals as goal

pub returns : goal.returns
returns c = record { sent = end_sent; closed = end_closed }
