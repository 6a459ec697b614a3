use Rattle.std.proofs.Common.{rules, [], ◌∷◌}
use Rattle.recorded_links.specs.Places.{entry}
use Rattle.recorded_links.specs.Rule.{noted_of}
use Rattle.recorded_links.specs.Shelves.{hand}
use Rattle.recorded_links.proofs.Turns.{goes_on}
use Rattle.recorded_links.proofs.passes.Shelf.note.Goals as goal

pub lay-requires-clause-begins : goal.lay-requires-clause-begins
lay-requires-clause-begins g c =
    let e = entry c.args.at c.args.octets.now in
    (noted_of e ∷ [], goes_on (hand c.lift_or_empty-batch.new.pass) c.lift_or_empty-batch.result c.add.new.self e c.lift_or_empty-batch.ensures.hand (search rules))
