use Rattle.t140_text.proofs.ends.TextEnd.push.Goals as goal
use Rattle.t140_text.proofs.Endings.{push_step}

pub returns-clause-more : goal.returns-clause-more
returns-clause-more c cs h = push_step c.args.self.now c.args.c cs h
