use Rattle.std.proofs.Common.{length}
use Rattle.reorder_buffer.specs.States.{packets_in}
use Rattle.cascade.proofs.Gathering.{Gathering}
use Rattle.cascade.proofs.dividers.Demux.gather.Given as goal

abbrev pub invariant-loop-due : goal.invariant-loop-due
invariant-loop-due l = Gathering l.initial.self l.self

-- each turn takes a packet out of the tracker
abbrev pub decreases-loop-due : goal.decreases-loop-due
decreases-loop-due l = length (packets_in l.self.buffer)
