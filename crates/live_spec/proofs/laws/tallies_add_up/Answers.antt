use Rattle.live_spec.proofs.Tallies.{tallies_law}
use Rattle.live_spec.proofs.laws.tallies_add_up.Goals as goal

pub returns : goal.returns
returns c = tallies_law
