use Rattle.live_leg.proofs.Giving.{gave_with}
use Rattle.live_leg.proofs.gives.LegProducerLegItemFault.next.Goals as goal

pub returns-clause-stands : goal.returns-clause-stands
returns-clause-stands g c = gave_with g.A.Arrivals c.args.self.now c.step-given.new.self c.step-given.result c.is_some.result _ c.is_some.ensures c.unwrap_or-item.ensures c.step-given.ensures.gives
