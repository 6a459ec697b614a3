use Rattle.workers.specs.Passes.{IsPushOf}
use Rattle.workers.specs.Feeds.{Follows}
use Rattle.workers.proofs.threads.run_feed.Given as goal

abbrev pub invariant-loop : goal.invariant-loop
invariant-loop g l = IsPushOf l.queue l.feed.pass × Follows g.F.Producer.stands l.fn.feed l.feed
