use Rattle.unaware_view.proofs.runs.Run.new.Goals as goal
use Rattle.std.proofs.Common.{refl}
use Rattle.unaware_view.proofs.RunSteps.{no_run}

pub returns-clause-run : goal.returns-clause-run
returns-clause-run c behind_cr = no_run _ refl refl c.new.ensures refl behind_cr
