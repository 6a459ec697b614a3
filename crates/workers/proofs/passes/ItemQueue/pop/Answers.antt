use Rattle.std.proofs.Common.{ap}
use Rattle.workers.proofs.Relaying.{gets, tells_pop}
use Rattle.workers.proofs.passes.ItemQueue.pop.Goals as goal

pub pop_as-item-requires-clause-rule : goal.pop_as-item-requires-clause-rule
pop_as-item-requires-clause-rule g c = let may = ap (λ v. v.pops) c.args.pass.now.end in (gets _ _ may, tells_pop _ _ may)
