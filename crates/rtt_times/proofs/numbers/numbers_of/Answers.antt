use Rattle.std.proofs.Common.{map, arith, ◌∙◌, ap}
use Rattle.std.proofs.lemmas.List.Sorted.{IsNonDecreasingBy-from_sort}
use Rattle.rtt_times.proofs.Missing.{late_numbers}
use Rattle.rtt_times.proofs.Telling.{take_over}
use Rattle.rtt_times.proofs.numbers.numbers_of.Goals as goal

pub returns : goal.returns
returns c =
    late_numbers c.args.late.now c.loop-index.numbers.items _ (c.loop-index.invariant ∙ ap (map (λ k. k.number)) (take_over c.args.late.now c.loop-index.index (omega arith))) c.sort_unstable.ensures.permutation
    (IsNonDecreasingBy-from_sort (λ n. n) _ c.sort_unstable.ensures.sorted)
