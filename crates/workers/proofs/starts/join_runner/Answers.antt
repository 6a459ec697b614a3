use Rattle.std.proofs.Common.{subst, sym}
use Rattle.std.specs.Mem.{manually_drop_value}
use Rattle.workers.specs.declared.feeds.Feed.{Feed}
use Rattle.workers.specs.Passes.{IsPushOf}
use Rattle.workers.specs.declared.lanes.Runner.{Runner}
use Rattle.workers.specs.Runners.{IsRunnerOf}
use Rattle.workers.proofs.starts.join_runner.Goals as goal

pub returns-in-There-clause-push : goal.returns-in-There-clause-push
returns-in-There-clause-push g c =
    let of = subst (λ (r : Runner g.row.Q.Denot g.row.F.Denot). IsRunnerOf c.args._queue.now r) c.in-There.is c.requires in
    subst (λ (f : Feed g.row.Q.Denot g.row.F.Denot). IsPushOf c.args._queue.now f.pass) (sym c.into_inner.ensures) (of (manually_drop_value c.join.result).pass c.join.ensures.0)
