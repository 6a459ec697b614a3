use Rattle.mix_loop.proofs.Serving.{answered}
use Rattle.mix_loop.proofs.call_laws.served_are_answered.Goals as goal

pub returns : goal.returns
returns g c = answered g.L.LinkIn
