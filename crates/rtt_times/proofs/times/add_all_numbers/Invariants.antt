use Rattle.std.proofs.Common.{◌≡◌, length}
use Rattle.std.specs.Prelude.{All}
use Rattle.rtt_times.specs.Found.{AreFew}
use Rattle.rtt_times.proofs.Telling.{NumberedSoFar}
use Rattle.rtt_times.proofs.times.add_all_numbers.Given as goal

abbrev pub invariant-loop-index : goal.invariant-loop-index
invariant-loop-index l = record {
  so_far : NumberedSoFar l.fn.payload_types l.fn.streams l.index l.named.items l.fn.lines l.lines;
  each : length l.named.items ≡ l.index;
  few : All AreFew l.named.items;
}
