use Rattle.std.proofs.Common.{refl}
use Rattle.receiver.proofs.Anew.{begins, one_source}
use Rattle.receiver.proofs.ears.Ear.restart.Goals as goal

pub restart-requires-2 : goal.restart-requires-2
restart-requires-2 c = one_source c.args.self.now c.requires

pub returns-clause-begins : goal.returns-clause-begins
returns-clause-begins c = begins c.args.self.now _ c.args.ssrc refl c.restart.ensures.stands c.restart-2.ensures.stands c.restart-2.ensures.latest c.clear.ensures
