use Rattle.std.proofs.Common.{ap}
use Rattle.recorded_links.proofs.Turns.{lays, tells_noter}
use Rattle.recorded_links.proofs.passes.Shelf.lay.Goals as goal

pub push_as-requires-clause-rule : goal.push_as-requires-clause-rule
push_as-requires-clause-rule g c = let may = ap (λ v. v.notes) c.args.pass.now.end in (lays _ _ _ _ c.args.self.now.places may c.requires.begins, tells_noter _ _ may)
