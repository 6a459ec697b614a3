use Rattle.mix_loop.proofs.live_lanes.WorkerLinkItemLinkLegConsumer.pop.Goals as goal

pub returns-in-Some-clause-began : goal.returns-in-Some-clause-began
returns-in-Some-clause-began g c = λ first h leg r. c.pop.ensures.runs leg (h leg r)

pub returns-in-None-clause-began : goal.returns-in-None-clause-began
returns-in-None-clause-began g c = λ first h leg r. c.pop.ensures.runs leg (h leg r)
