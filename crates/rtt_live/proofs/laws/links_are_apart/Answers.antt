use Rattle.rtt_live.proofs.Apart.{apart_law}
use Rattle.rtt_live.proofs.laws.links_are_apart.Goals as goal

pub returns : goal.returns
returns c = apart_law
