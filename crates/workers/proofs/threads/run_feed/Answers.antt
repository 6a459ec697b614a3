use Rattle.std.proofs.Common.{subst, sym}
use Rattle.workers.specs.declared.feeds.Feed.{Feed}
use Rattle.workers.specs.Feeds.{FeedStands}
use Rattle.workers.proofs.threads.run_feed.Goals.{in-None, in-Some+then-is_done, in-Some+else-is_done+else-load+then-step}
use Rattle.workers.proofs.threads.run_feed.Goals as goal

pub returns-clause-follows : goal.returns-clause-follows
returns-clause-follows g c = λ first s.
    let Has : Feed _ _ → Type 0 = λ f. FeedStands g.F.Producer.stands first f in
    let before : Has c.loop.feed = c.loop.invariant.1 first s in
    elim c.match-next.branch [
      | in-None w ↦ subst Has (sym w.feed-is) before
      | in-Some+then-is_done w ↦ subst Has (sym w.feed-is) before
      | in-Some+else-is_done+else-load+then-step w ↦ subst Has (sym w.feed-is) (w.step.ensures.follows first before)
    ]
