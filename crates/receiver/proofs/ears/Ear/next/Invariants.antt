use Rattle.std.proofs.Common.{length}
use Rattle.reorder_buffer.specs.States.{packets_in}
use Rattle.receiver.proofs.Giving.{Going}
use Rattle.receiver.proofs.ears.Ear.next.Given as goal

abbrev pub invariant-loop-chunk : goal.invariant-loop-chunk
invariant-loop-chunk l = Going l.initial.self l.self

-- each turn takes a packet out of the tracker
abbrev pub decreases-loop-chunk : goal.decreases-loop-chunk
decreases-loop-chunk l = length (packets_in l.self.buffer)
