use Rattle.std.proofs.Common.{◌<◌, ◌≤◌, ◌∙◌, get_or, length, le-ltb, refl, ltb, ltb-true, ltb-false, arith, rules}
use Rattle.std.proofs.lemmas.List.Sorted.{IsPartitionPoint-from_clause, IsPartitionedBy-ltb}
use Rattle.rtt_times.specs.Numbers.{due_number}
use Rattle.rtt_times.proofs.Kept.{place_is}
use Rattle.rtt_times.proofs.Missing.{found_nowhere, found_there}
use Rattle.rtt_times.proofs.numbers.is_used.Goals as goal

pub returns-then-place-used : goal.returns-then-place-used
returns-then-place-used c =
    let parted = IsPartitionedBy-ltb due_number _ c.args.number c.requires in
    let point = IsPartitionPoint-from_clause (λ d. ltb d.number c.args.number) _ _ c.partition_point-place.ensures.partitioned parted (λ a r q k. search rules) in
    let there : c.partition_point-place.result < length c.args.used.now = omega arith in
    found_there c.args.used.now c.args.number c.partition_point-place.result (get_or c.args.used.now c.partition_point-place.result (record { number = 0; ready = 0 })) c.requires there (place_is c.args.used.now c.args.used.now c.partition_point-place.result _ refl there)
    (λ k d l. ltb-true _ c.args.number (point.0 k d (omega arith) l)) (λ k d l m. ltb-false _ c.args.number (point.1 k d l m))

pub returns-else-place-used : goal.returns-else-place-used
returns-else-place-used c =
    let parted = IsPartitionedBy-ltb due_number _ c.args.number c.requires in
    let point = IsPartitionPoint-from_clause (λ d. ltb d.number c.args.number) _ _ c.partition_point-place.ensures.partitioned parted (λ a r q k. search rules) in
    let over : length c.args.used.now ≤ c.partition_point-place.result = omega arith in
    le-ltb c.partition_point-place.result (length c.args.used.now) over ∙ found_nowhere c.args.used.now c.args.number c.partition_point-place.result over (λ k d l. ltb-true _ c.args.number (point.0 k d (omega arith) l))
