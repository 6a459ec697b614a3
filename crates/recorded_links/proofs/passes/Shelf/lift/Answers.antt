use Rattle.std.proofs.Common.{ap}
use Rattle.recorded_links.proofs.Turns.{lifts, tells_noter}
use Rattle.recorded_links.proofs.passes.Shelf.lift.Goals as goal

pub pop_as-requires-clause-rule : goal.pop_as-requires-clause-rule
pop_as-requires-clause-rule g c = let may = ap (λ v. v.notes) c.args.pass.now.end in (lifts _ _ may, tells_noter _ _ may)
