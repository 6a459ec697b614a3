-- What was pushed is what was popped, and then what the queue holds. At most one pass may push, and it has the list of what was
-- pushed. The same for what was popped.
use Rattle.std.specs.Prelude.{◌≡◌, ◌≤◌, ℕ, Bool, true, List, ◌++◌, length}
use mathlib.Core.Option.{some}
use lib.ListN.{get_elem?}
use Rattle.workers.specs.declared.limits.TheConstants.{MOST_QUEUED}
use Rattle.workers.specs.declared.rule.PassHistory.{PassHistory}

module _ {Q : Type 0} where
  abbrev pub known : Bool → Bool → List Q → List Q → PassHistory Q
  known pushes pops pushed popped = record { pushes = pushes; pops = pops; pushed = pushed; popped = popped }

  -- where the pass with this number may push it is the writer, and where it may pop it is the reader
  abbrev pub Fits : ℕ → ℕ → List Q → List Q → ℕ → PassHistory Q → Type 0
  Fits writer reader pushed popped port v = (v.pushes ≡ true → (port ≡ writer) × (v.pushed ≡ pushed)) × (v.pops ≡ true → (port ≡ reader) × (v.popped ≡ popped))

  abbrev pub Relayed : List Q → List (PassHistory Q) → Type 0
  Relayed items views = (writer : ℕ) × (reader : ℕ) × (pushed : List Q) × (popped : List Q) × (pushed ≡ popped ++ items)
      × ((port : ℕ) (v : PassHistory Q) → get_elem? views port ≡ some v → Fits writer reader pushed popped port v)
      × (length items ≤ MOST_QUEUED)
