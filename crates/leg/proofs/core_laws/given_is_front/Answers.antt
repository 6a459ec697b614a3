use Rattle.leg.proofs.Fronts.{given_is_front}
use Rattle.leg.proofs.core_laws.given_is_front.Goals as goal

pub returns : goal.returns
returns g c = given_is_front g.S.Source.left
