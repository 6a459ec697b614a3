use Rattle.packetizer.proofs.Scripts.{own_packets}
use Rattle.packetizer.proofs.sender_laws.sent_packets_are_own.Goals as goal

pub returns : goal.returns
returns c = own_packets
