use Rattle.std.proofs.Common.{◌≡◌, ℕ, List, ◌-◌, drop, length, length-drop, ltb, ltb-true, ltb-false, arith, rules, subst, sym, take}
use Rattle.std.proofs.lemmas.List.Sorted.{IsNonDecreasingBy-drop, IsNonDecreasingBy-take, IsPartitionPoint-from_clause, IsPartitionedBy-ltb}
use Rattle.std.specs.Prelude.{Bool}
use Rattle.std.specs.List.Sorted.{IsPartitionPoint}
use Rattle.rtt_times.specs.Numbers.{IsPart}
use Rattle.rtt_times.proofs.Missing.{is_part}
use Rattle.rtt_times.proofs.Telling.{take_over}
use Rattle.rtt_times.proofs.numbers.between.Goals as goal

pub returns-clause-part : goal.returns-clause-part
returns-clause-part c =
    let id : ℕ → ℕ = λ n. n in
    let late = c.args.late.now in
    let from = c.partition_point-from.result in
    let count = c.partition_point-count.result in
    let rest : List ℕ = take (length late - from) (drop from late) in
    let rest_is : rest ≡ drop from late = take_over (drop from late) (length late - from) (omega (arith, length-drop from late)) in
    let one = IsPartitionPoint-from_clause (λ n. ltb n c.args.low) _ _ c.partition_point-from.ensures.partitioned (IsPartitionedBy-ltb id late c.args.low c.requires) (λ a r q k. search rules) in
    let two = IsPartitionPoint-from_clause (λ n. ltb n c.args.high) _ _ c.partition_point-count.ensures.partitioned (IsPartitionedBy-ltb id rest c.args.high (IsNonDecreasingBy-take id (length late - from) (drop from late) (IsNonDecreasingBy-drop id from late c.requires))) (λ a r q k. search rules) in
    let three : IsPartitionPoint (λ (y : ℕ). ltb y c.args.high ≡ Bool.true) (λ (y : ℕ). ltb y c.args.high ≡ Bool.false) (drop from late) count = subst (λ (xs : List ℕ). IsPartitionPoint (λ (y : ℕ). ltb y c.args.high ≡ Bool.true) (λ (y : ℕ). ltb y c.args.high ≡ Bool.false) xs count) rest_is two in
    subst (λ (xs : List ℕ). IsPart c.args.low c.args.high late (take count xs)) (sym rest_is)
    (is_part c.args.low c.args.high late from count (λ k d l m. ltb-true _ c.args.low (one.0 k d (omega arith) l)) (λ k d l m. ltb-false _ c.args.high (three.1 k d l m)))
