use Rattle.std.proofs.Common.{ap}
use Rattle.workers.proofs.Relaying.{sends, tells_push}
use Rattle.workers.proofs.passes.ItemQueue.push.Goals as goal

pub push_as-answer-requires-clause-rule : goal.push_as-answer-requires-clause-rule
push_as-answer-requires-clause-rule g c = let may = ap (λ v. v.pushes) c.args.pass.now.end in (sends _ _ _ _ c.args.self.now.places may, tells_push _ _ may)
