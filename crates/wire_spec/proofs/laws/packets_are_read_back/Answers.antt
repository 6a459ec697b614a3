use Rattle.wire_spec.proofs.WholePackets.{text_read_back}
use Rattle.wire_spec.proofs.laws.packets_are_read_back.Goals as goal

pub returns : goal.returns
returns c = text_read_back
