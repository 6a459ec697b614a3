use Rattle.std.proofs.Common.{◌≡◌, length}
use Rattle.reorder_buffer.specs.States.{packets_in, arrival_count}
use Rattle.rtt_show.specs.Strays.{Drains}
use Rattle.rtt_show.proofs.strays.drain.Given as goal

abbrev pub invariant-loop-due : goal.invariant-loop-due
invariant-loop-due l = record {
  drains : Drains l.initial.buffer l.buffer;
  arrivals : arrival_count l.buffer ≡ arrival_count l.initial.buffer;
}

-- each turn takes a packet out of the tracker
abbrev pub decreases-loop-due : goal.decreases-loop-due
decreases-loop-due l = length (packets_in l.buffer)
