use Rattle.wire_spec.proofs.SentBack.{sent_back}
use Rattle.wire_spec.proofs.laws.sent_packets_are_read_back.Goals as goal

pub returns : goal.returns
returns c = sent_back
