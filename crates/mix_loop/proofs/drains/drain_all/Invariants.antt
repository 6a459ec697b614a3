use Rattle.mix_loop.specs.Walks.{AllGrew, AreAt}
use Rattle.mix_loop.proofs.drains.drain_all.Given as goal

abbrev pub invariant-loop-leg : goal.invariant-loop-leg
invariant-loop-leg g l = AreAt l.ports × AllGrew g.I.Consumer.popped g.I.Consumer.began l.fn.ports l.ports
