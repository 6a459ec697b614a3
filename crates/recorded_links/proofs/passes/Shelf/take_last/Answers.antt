use Rattle.std.proofs.Common.{ap, rules}
use Rattle.recorded_links.proofs.Turns.{merges, takes_last, tells_both}
use Rattle.recorded_links.proofs.passes.Shelf.take_last.Goals as goal

pub absorb-requires-clause-rule : goal.absorb-requires-clause-rule
absorb-requires-clause-rule g c = merges _ _ _ _ (ap (λ v. v.notes) c.args.note.end) (ap (λ v. v.takes) c.args.take.end)

pub pop_as-requires-clause-rule : goal.pop_as-requires-clause-rule
pop_as-requires-clause-rule g c = (takes_last _ _ (search rules) (search rules), tells_both _ _ (search rules) (search rules))
