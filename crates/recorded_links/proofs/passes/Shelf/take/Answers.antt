use Rattle.std.proofs.Common.{ap}
use Rattle.recorded_links.proofs.Turns.{takes, tells_writer}
use Rattle.recorded_links.proofs.passes.Shelf.take.Goals as goal

pub pop_as-requires-clause-rule : goal.pop_as-requires-clause-rule
pop_as-requires-clause-rule g c = let may = ap (λ v. v.takes) c.args.pass.now.end in (takes _ _ may, tells_writer _ _ may)
