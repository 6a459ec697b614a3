use Rattle.mix_loop.proofs.Covering.{covers}
use Rattle.mix_loop.proofs.call_laws.legs_cover.Goals as goal

pub returns : goal.returns
returns g c = covers g.L.LinkIn
