use Rattle.rtt_top.proofs.Histories.{sent}
use Rattle.rtt_top.proofs.laws.sent_files_are_histories.Goals as goal

pub returns : goal.returns
returns c = sent
