use Rattle.workers.proofs.lanes.Worker.wait.Goals as goal

pub returns-clause-runs : goal.returns-clause-runs
returns-clause-runs g c = λ first began x e. c.step_runner.ensures.stands x (began x e)
