use Rattle.std.proofs.Common.{length}
use Rattle.reorder_buffer.specs.Stories.{Story}
use Rattle.reorder_buffer.specs.Tracks.{Follows, SameBut}
use Rattle.reorder_buffer.proofs.holds.Hold.advance.Given as goal

abbrev pub invariant-loop-latest : goal.invariant-loop-latest
invariant-loop-latest l = record { same : SameBut l.fn.self l.self; stands : (story : Story) → Follows l.fn.self story → Follows l.self story }

abbrev pub decreases-loop-latest : goal.decreases-loop-latest
decreases-loop-latest l = length l.self.held
