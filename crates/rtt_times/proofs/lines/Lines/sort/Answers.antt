use Rattle.std.proofs.Common.{refl, rules}
use Rattle.std.proofs.lemmas.List.Sorted.{IsNonDecreasingBy-from_sort_by_key, answers_always}
use Rattle.rtt_times.proofs.Kept.{sorted, stable_given}
use Rattle.rtt_times.proofs.lines.Lines.sort.Goals as goal

pub returns : goal.returns
returns c =
    sorted _ _ refl c.sort_by_key.ensures.permutation (IsNonDecreasingBy-from_sort_by_key (λ s. s.at) _ c.in_ok-sort_by_key.ensures.sorted (λ a r q k. search rules))
    (stable_given _ _ (c.sort_by_key.ensures.stable (λ s. s.at) (answers_always _ _ _ (λ f a r g h. search rules))))
