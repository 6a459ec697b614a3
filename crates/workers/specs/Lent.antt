-- What a clause says of a feed that is lent to a thread.
use Rattle.std.specs.Prelude.{List}
use Rattle.std.specs.Mem.{manually_drop_value}
use Rattle.core.specs.declared.mem.manually_drop.ManuallyDrop.{ManuallyDrop}
use Rattle.workers.specs.declared.passes.ItemQueue.{ItemQueue}
use Rattle.workers.specs.declared.feeds.Feed.{Feed}
use Rattle.workers.specs.Passes.{IsPushOf}
use Rattle.workers.specs.Feeds.{Follows}

module _ {Q F : Type 0} (stands : F → F → List Q → Type 0) where
  -- the feed's end is still one of this queue, and whatever it began with, it stands for
  abbrev pub FeedKept : ItemQueue Q → Feed Q F → Feed Q F → Type 0
  FeedKept q old new = IsPushOf q new.pass × Follows stands old new

  -- the same of a feed that is lent and given back
  abbrev pub LentKept : ItemQueue Q → ManuallyDrop (Feed Q F) → ManuallyDrop (Feed Q F) → Type 0
  LentKept q lent back = FeedKept q (manually_drop_value lent) (manually_drop_value back)

  abbrev pub LentFollows : ManuallyDrop (Feed Q F) → ManuallyDrop (Feed Q F) → Type 0
  LentFollows lent back = Follows stands (manually_drop_value lent) (manually_drop_value back)
