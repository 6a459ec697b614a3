use Rattle.live_leg.proofs.legs.Leg.ask.Goals as goal

pub returns-in-Ok-clause-gives : goal.returns-in-Ok-clause-gives
returns-in-Ok-clause-gives g c = λ first items s. c.give.ensures.gives first items (c.in-Ok.ensures.ok first items s)
