use Rattle.std.proofs.Common.{ap, rules}
use Rattle.workers.proofs.Relaying.{merges, totals}
use Rattle.workers.proofs.passes.ItemQueue.settle.Goals as goal

pub absorb-requires-clause-rule : goal.absorb-requires-clause-rule
absorb-requires-clause-rule g c = merges _ _ _ _ (ap (λ v. v.pushes) c.args.push.end) (ap (λ v. v.pops) c.args.pop.end)

pub learn_as-requires-clause-rule : goal.learn_as-requires-clause-rule
learn_as-requires-clause-rule g c = totals _ _ (search rules) (search rules)
