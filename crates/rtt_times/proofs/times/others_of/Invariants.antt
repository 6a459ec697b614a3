use Rattle.std.proofs.Common.{◌≡◌, ◌≤◌, ◌*◌, ◌^◌, take}
use Rattle.rtt_times.specs.Found.{sum_others}
use Rattle.rtt_times.proofs.times.others_of.Given as goal

abbrev pub invariant-loop-index : goal.invariant-loop-index
invariant-loop-index l = record {
  sum : l.others ≡ sum_others (take l.index l.fn.named);
  few : l.others ≤ 2 ^ 32 * l.index;
}
