use Rattle.leg.proofs.Pushing.{done_all}
use Rattle.leg.proofs.item_laws.done_is_all.Goals as goal

pub returns : goal.returns
returns g c = λ first feed a t s st d. done_all g.S.Source.tells g.S.Source.left g.S.Source.faults g.S.Source.name first feed a t s st d
