use Rattle.std.proofs.Common.{◌<◌, None, ap, ◌∙◌, length, get_or, set, arith}
use Rattle.std.proofs.lemmas.List.{get_or_default}
use Rattle.std.proofs.lemmas.List.Edits.{map_over_more}
use Rattle.mixer_places.specs.declared.parts.Part.{Part}
use Rattle.mixer_places.specs.Lanes.{part_after, start}
use Rattle.mixer_places.proofs.parts.count_from.Goals as goal

pub loop-part-preserved : goal.loop-part-preserved
loop-part-preserved c =
    let xs = c.args.parts.now in
    let ys = c.loop-part.parts in
    let i = c.loop-part.part-index in
    let first : Part = record { from = start; to = None } in
    let x = get_or ys i first in
    let l : i < length xs = c.loop-part-test.true in
    let m : i < length ys = omega (arith, l, c.loop-part.auto.parts) in
    ap (λ (y : Part). set ys i y) c.after.ensures ∙ map_over_more (part_after c.args.front) xs ys i x l c.loop-part.invariant (get_or_default ys i first x m)
