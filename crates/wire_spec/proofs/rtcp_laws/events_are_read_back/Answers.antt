use Rattle.wire_spec.proofs.ReadBack.{read_back}
use Rattle.wire_spec.proofs.rtcp_laws.events_are_read_back.Goals as goal

pub returns : goal.returns
returns c = read_back
