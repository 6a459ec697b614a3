-- What a clause says of what gives items, at its queue.
use Rattle.std.specs.Prelude.{Bool, ◌&&◌, is_none, List, ◌++◌, option_to_list}
use Rattle.workers.specs.declared.feeds.Feed.{Feed}
use Rattle.workers.specs.Passes.{pushed}

module _ {Q F : Type 0} where
  -- nothing is in hand
  abbrev pub is_empty : Feed Q F → Bool
  is_empty f = is_none f.hand

  -- the last item was pushed
  abbrev pub is_done : (F → Bool) → Feed Q F → Bool
  is_done over f = over f.gives && is_empty f

  -- what was pushed and then what is in hand
  abbrev pub has_of : Feed Q F → List Q
  has_of f = pushed f.pass ++ option_to_list f.hand

  -- from `first` on, what gives gave this
  abbrev pub FeedStands : (F → F → List Q → Type 0) → F → Feed Q F → Type 0
  FeedStands stands first f = stands first f.gives (has_of f)

  -- whatever it began with, it still stands for
  abbrev pub Follows : (F → F → List Q → Type 0) → Feed Q F → Feed Q F → Type 0
  Follows stands old new = (first : F) → FeedStands stands first old → FeedStands stands first new
