use Rattle.packetizer.proofs.Scripts.{lawful, own}
use Rattle.packetizer.proofs.sender_laws.history_is_lawful.Goals as goal

pub returns : goal.returns
returns c = record { lawful = lawful; own = own }
