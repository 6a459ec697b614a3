-- What a clause says of what runs and of the end of its queue.
use Rattle.std.specs.Prelude.{◌≡◌, ℕ, Some, List, [], ◌++◌, slice_get}
use Rattle.workers.specs.Passes.{popped}
use Rattle.workers.specs.declared.producers.GatedProducer.{GatedProducer}
use Rattle.workers.specs.declared.lanes.Worker.{Worker}
use Rattle.workers.specs.Gates.{gated_gives}
use Rattle.workers.specs.Pairs.{Pairs}
use Rattle.workers.specs.Runners.{RunnerStands}

module _ {Q F : Type 0} where
  -- each of these gave nothing yet
  abbrev pub AreNew : (F → F → List Q → Type 0) → List F → Type 0
  AreNew stands xs = (j : ℕ) (x : F) → slice_get xs j ≡ Some x → stands x x []

module _ {Q F G : Type 0} where
  -- what was popped, oldest first
  abbrev pub popped_of : Worker Q F G → List Q
  popped_of lane = popped lane.pop

  -- what runs began with this
  abbrev pub BeganWith : (F → F → List Q → Type 0) → F → Worker Q F G → Type 0
  BeganWith stands first lane = (g : GatedProducer F G) → g.gives ≡ first
      → RunnerStands (gated_gives stands) g lane.runner

  -- whatever the one began with, the other did
  abbrev pub LaneFollows : (F → F → List Q → Type 0) → Worker Q F G → Worker Q F G → Type 0
  LaneFollows stands old new = (first : F) → BeganWith stands first old → BeganWith stands first new

  -- it was started with this, of which nothing was popped
  pub record IsStarted (stands : F → F → List Q → Type 0) (gives : F) (lane : Worker Q F G) : Type 0 where
    pub none : popped_of lane ≡ []
    pub runs : BeganWith stands gives lane

  -- what was popped is the first of what it gave, whatever it began with
  abbrev pub ComesBack : (F → F → List Q → Type 0) → Worker Q F G → F → Type 0
  ComesBack stands lane back = (first : F) → BeganWith stands first lane
      → (left : List Q) × stands first back (popped_of lane ++ left)

  abbrev pub AreStarted : (F → F → List Q → Type 0) → List F → List (Worker Q F G) → Type 0
  AreStarted stands = Pairs (IsStarted stands)

  abbrev pub AreBack : (F → F → List Q → Type 0) → List (Worker Q F G) → List F → Type 0
  AreBack stands = Pairs (ComesBack stands)
