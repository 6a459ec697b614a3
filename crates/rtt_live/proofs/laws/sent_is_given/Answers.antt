use Rattle.rtt_live.proofs.Sent.{sent_law}
use Rattle.rtt_live.proofs.laws.sent_is_given.Goals as goal

pub returns : goal.returns
returns c = sent_law
