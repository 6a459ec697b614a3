use Rattle.mix_loop.proofs.Closing.{end_law}
use Rattle.mix_loop.proofs.call_laws.end_is_all.Goals as goal

pub returns : goal.returns
returns g c = end_law g.L.LinkIn
