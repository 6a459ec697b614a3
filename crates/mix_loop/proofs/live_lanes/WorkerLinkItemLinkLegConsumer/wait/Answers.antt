use Rattle.mix_loop.proofs.live_lanes.WorkerLinkItemLinkLegConsumer.wait.Goals as goal

pub returns-clause-began : goal.returns-clause-began
returns-clause-began g c = λ first h leg r. c.wait.ensures.runs leg (h leg r)
