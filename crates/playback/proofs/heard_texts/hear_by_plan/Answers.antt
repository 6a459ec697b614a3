use Rattle.std.proofs.Common.{List, length, ap, arith}
use Rattle.playback.specs.declared.copies.Arrival.{Arrival}
use Rattle.playback.proofs.PlayedCopies.{few_copies}
use Rattle.playback.proofs.heard_texts.hear_by_plan.Goals as goal

pub hear_copies-requires-clause-few : goal.hear_copies-requires-clause-few
hear_copies-requires-clause-few c =
    omega (arith, ap (λ (xs : List Arrival). length xs) c.as_slice-2.ensures.value, few_copies c.args.plan.now c.args.number c.as_slice.result.now c.in_ok-copies.copies.items c.in_ok-copies.ensures.exact, ap (λ xs. length xs) c.as_slice.ensures.value, c.in_ok-found.ensures.few)

pub hear_copies-requires-clause-found : goal.hear_copies-requires-clause-found
hear_copies-requires-clause-found c = let r = c.requires.records in (r.0, r.1, c.in_ok-found.ensures.finds r.0 r.1)
