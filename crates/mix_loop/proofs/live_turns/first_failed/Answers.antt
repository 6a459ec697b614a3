use Rattle.std.proofs.Common.{arith}
use Rattle.mix_loop.proofs.Lists.{get_within}
use Rattle.mix_loop.proofs.LiveWalking.{none_failed, one_failed}
use Rattle.mix_loop.proofs.live_turns.first_failed.Goals as goal
use Rattle.stream_spec.proofs.Plain.{get_read}

pub returns-then-port : goal.returns-then-port
returns-then-port g c =
    let port = c.index-ports-leg.result in
    let at = get_read c.args.ports.now c.loop-leg.leg port c.loop-leg-test.true c.index-ports-leg.is in
    one_failed c.args.ports.now c.loop-leg.leg port c.requires at c.if-port.true c.loop-leg.invariant

pub loop-leg-preserved : goal.loop-leg-preserved
loop-leg-preserved g c =
    let port = c.index-ports-leg.result in
    let at = get_read c.args.ports.now c.loop-leg.leg port c.loop-leg-test.true c.index-ports-leg.is in
    none_failed c.args.ports.now c.loop-leg.leg port at c.if-port.false c.loop-leg.invariant

pub returns : goal.returns
returns g c = λ j p at. c.loop-leg.invariant j p (let low = get_within c.args.ports.now j p at in omega (arith, low, c.loop-leg-test.false, c.loop-leg.auto.leg-end)) at
