use Rattle.live_leg.proofs.legs.Leg.step.Goals as goal

pub returns-in-Giving-clause-gives : goal.returns-in-Giving-clause-gives
returns-in-Giving-clause-gives g c = λ first items s. c.give.ensures.gives first items s.so
