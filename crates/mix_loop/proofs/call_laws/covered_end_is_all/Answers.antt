use Rattle.mix_loop.proofs.Draining.{covered_end}
use Rattle.mix_loop.proofs.call_laws.covered_end_is_all.Goals as goal

pub returns : goal.returns
returns c = covered_end
