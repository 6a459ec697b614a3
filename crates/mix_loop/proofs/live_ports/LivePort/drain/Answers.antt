use Rattle.std.proofs.Common.{◌∙◌}
use Rattle.mix_loop.proofs.Advancing.{then_grew}
use Rattle.mix_loop.proofs.live_ports.LivePort.drain.Goals as goal

pub loop-preserved : goal.loop-preserved
loop-preserved g c = (
  c.discard.ensures.empty,
  c.discard.ensures.leg ∙ c.loop.invariant.1,
  then_grew g.I.Consumer.popped g.I.Consumer.began c.args.self.now c.loop.self c.discard.new.self c.loop.invariant.2 c.discard.ensures.grew,
)

pub returns-then-discard-clause-grew : goal.returns-then-discard-clause-grew
returns-then-discard-clause-grew g c = then_grew g.I.Consumer.popped g.I.Consumer.began c.args.self.now c.loop.self c.discard.new.self c.loop.invariant.2 c.discard.ensures.grew
