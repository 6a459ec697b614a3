-- What a clause says of a queue and of its two ends.
use Rattle.std.specs.Prelude.{◌≡◌, List, ◌++◌, length}
use Rattle.crossbeam_queue.specs.Passes.{view, IsPassOf}
use Rattle.workers.specs.declared.limits.TheConstants.{MOST_QUEUED}
use Rattle.workers.specs.declared.passes.ItemQueue.{ItemQueue}
use Rattle.workers.specs.declared.passes.PushPass.{PushPass}
use Rattle.workers.specs.declared.passes.PopPass.{PopPass}

module _ {Q : Type 0} where
  -- at least as many items were pushed as the queue has places; how many of them still wait is not said
  abbrev pub WasFull : List Q → Type 0
  WasFull all = (before : List Q) × (items : List Q) × (all ≡ before ++ items) × (length items ≡ MOST_QUEUED)

  -- what this end has pushed, oldest first
  abbrev pub pushed : PushPass Q → List Q
  pushed p = (view p.pass).pushed

  -- what this end has popped, oldest first
  abbrev pub popped : PopPass Q → List Q
  popped p = (view p.pass).popped

  -- the end is one of this queue's
  abbrev pub IsPushOf : ItemQueue Q → PushPass Q → Type 0
  IsPushOf q p = IsPassOf q.line p.pass

  abbrev pub IsPopOf : ItemQueue Q → PopPass Q → Type 0
  IsPopOf q p = IsPassOf q.line p.pass
