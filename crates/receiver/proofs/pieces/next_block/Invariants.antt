use Rattle.std.proofs.Common.{◌≡◌, ◌≤◌, ◌-◌, length, drop}
use Rattle.receiver.specs.Steps.{older_since}
use Rattle.receiver.proofs.pieces.next_block.Given as goal

abbrev pub invariant-loop-index : goal.invariant-loop-index
invariant-loop-index l = (l.index ≤ length l.older) × (older_since l.seen l.timestamp (drop l.start l.older) ≡ older_since l.seen l.timestamp (drop l.index l.older))

abbrev pub decreases-loop-index : goal.decreases-loop-index
decreases-loop-index l = length l.older - l.index
