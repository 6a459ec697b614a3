use Rattle.packetizer.proofs.Scripts.{all_sent}
use Rattle.packetizer.proofs.sender_laws.all_is_sent_in_order.Goals as goal

pub returns : goal.returns
returns c = all_sent
