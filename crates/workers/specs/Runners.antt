-- What a clause says of what runs.
use Rattle.std.specs.Prelude.{List}
use Rattle.workers.specs.declared.passes.ItemQueue.{ItemQueue}
use Rattle.workers.specs.declared.passes.PushPass.{PushPass}
use Rattle.workers.specs.declared.feeds.Feed.{Feed}
use Rattle.workers.specs.Passes.{IsPushOf}
use Rattle.workers.specs.Feeds.{FeedStands}
use Rattle.workers.specs.declared.lanes.Runner.{Runner}
use Rattle.workers.specs.declared.lanes.Runner.TheVariants.{There, Here}

module _ {Q F : Type 0} where
  -- what runs began with this
  abbrev pub RunnerStands : (F → F → List Q → Type 0) → F → Runner Q F → Type 0
  RunnerStands stands first (There h) = FeedStands stands first h.promise.was.value
  RunnerStands stands first (Here f) = FeedStands stands first f

  -- whatever the one began with, the other did
  abbrev pub RunnerFollows : (F → F → List Q → Type 0) → Runner Q F → Runner Q F → Type 0
  RunnerFollows stands old new = (first : F) → RunnerStands stands first old → RunnerStands stands first new

  abbrev pub FeedRuns : (F → F → List Q → Type 0) → Feed Q F → Runner Q F → Type 0
  FeedRuns stands feed runner = (first : F) → FeedStands stands first feed → RunnerStands stands first runner

  abbrev pub FeedReturns : (F → F → List Q → Type 0) → Runner Q F → Feed Q F → Type 0
  FeedReturns stands runner feed = (first : F) → RunnerStands stands first runner → FeedStands stands first feed

  -- its end is one of this queue
  abbrev pub IsRunnerOf : ItemQueue Q → Runner Q F → Type 0
  IsRunnerOf q (There h) = (end : PushPass Q) → IsPushOf h.promise.of.value end → IsPushOf q end
  IsRunnerOf q (Here f) = IsPushOf q f.pass

  pub IsRunnerOf-prop : (q : ItemQueue Q) (r : Runner Q F) → ((end : PushPass Q) → IsProp (IsPushOf q end))
      → IsProp (IsRunnerOf q r)
  IsRunnerOf-prop q (There h) a = λ x y i end e. a end (x end e) (y end e) i
  IsRunnerOf-prop q (Here f) a = a f.pass
