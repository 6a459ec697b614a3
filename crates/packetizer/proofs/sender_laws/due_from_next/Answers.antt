use Rattle.packetizer.proofs.Scripts.{due_from, none_due}
use Rattle.packetizer.proofs.sender_laws.due_from_next.Goals as goal

pub returns : goal.returns
returns c = record { some = due_from; none = none_due }
