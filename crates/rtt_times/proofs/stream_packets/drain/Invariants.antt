use Rattle.std.proofs.Common.{◌≡◌, length}
use Rattle.reorder_buffer.specs.States.{arrival_count, is_finished, packets_in}
use Rattle.rtt_times.proofs.Hearing.{Drained}
use Rattle.rtt_times.proofs.stream_packets.drain.Given as goal

abbrev pub invariant-loop-due : goal.invariant-loop-due
invariant-loop-due l = record {
  drained : Drained l.fn.buffer l.fn.used.items l.buffer l.used.items;
  arrivals : arrival_count l.buffer ≡ arrival_count l.fn.buffer;
  finished : is_finished l.buffer ≡ is_finished l.fn.buffer;
}

abbrev pub decreases-loop-due : goal.decreases-loop-due
decreases-loop-due l = length (packets_in l.buffer)
