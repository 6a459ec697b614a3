use Rattle.std.proofs.Common.{◌≡◌, map, take}
use Rattle.rtt_times.proofs.numbers.numbers_of.Given as goal

abbrev pub invariant-loop-index : goal.invariant-loop-index
invariant-loop-index l = l.numbers.items ≡ map (λ c. c.number) (take l.index l.fn.late)
