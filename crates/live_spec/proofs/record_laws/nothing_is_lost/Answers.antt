use Rattle.live_spec.proofs.Growing.{all_there}
use Rattle.live_spec.proofs.record_laws.nothing_is_lost.Goals as goal

pub returns : goal.returns
returns c = all_there
