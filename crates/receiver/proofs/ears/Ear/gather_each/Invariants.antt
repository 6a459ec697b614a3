use Rattle.std.proofs.Common.{length}
use Rattle.reorder_buffer.specs.States.{packets_in}
use Rattle.receiver.proofs.Each.{GatheringEach}
use Rattle.receiver.proofs.ears.Ear.gather_each.Given as goal

abbrev pub invariant-loop-due : goal.invariant-loop-due
invariant-loop-due l = GatheringEach l.initial.self l.self l.used l.initial.heard l.heard

-- each turn takes a packet out of the tracker
abbrev pub decreases-loop-due : goal.decreases-loop-due
decreases-loop-due l = length (packets_in l.self.buffer)
