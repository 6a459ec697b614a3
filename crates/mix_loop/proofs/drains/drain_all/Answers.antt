use Rattle.std.proofs.Common.{◌<◌, length, get_or, ◌∙◌, arith}
use Rattle.mix_loop.proofs.Lists.{get_there}
use Rattle.mix_loop.proofs.LiveWalking.{at_set, none_grew, one_grew}
use Rattle.mix_loop.proofs.drains.drain_all.Goals as goal

pub loop-leg-init : goal.loop-leg-init
loop-leg-init g c = (c.requires.at, none_grew g.I.Consumer.popped g.I.Consumer.began c.args.ports.now)

pub loop-leg-preserved : goal.loop-leg-preserved
loop-leg-preserved g c =
    let low : c.loop-leg.leg < length c.loop-leg.ports = omega (arith, c.loop-leg-test.true, c.loop-leg.auto.ports) in
    let p = get_or c.loop-leg.ports c.loop-leg.leg c.index-ports-leg.result in
    let at = get_there c.loop-leg.ports c.loop-leg.leg c.index-ports-leg.result low in (
      at_set c.loop-leg.ports c.loop-leg.leg c.drain.new.self c.loop-leg.invariant.0 low (c.drain.ensures.leg ∙ c.loop-leg.invariant.0 c.loop-leg.leg p at),
      one_grew g.I.Consumer.popped g.I.Consumer.began c.args.ports.now c.loop-leg.ports c.loop-leg.leg p c.drain.new.self at c.drain.ensures.grew c.loop-leg.invariant.1,
    )
