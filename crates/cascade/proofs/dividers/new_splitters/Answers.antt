use Rattle.std.proofs.Common.{arith}
use Rattle.cascade.proofs.Gathering.{started_more}
use Rattle.cascade.proofs.dividers.new_splitters.Goals as goal

pub loop-source-preserved : goal.loop-source-preserved
loop-source-preserved c =
    started_more c.args.payload_types c.args.sources.now c.loop-source.splitters.items c.push.new.self.items c.loop-source.source-index c.in_ok-new.field-0
    c.in_ok-push.ensures.items c.loop-source.invariant.0 c.loop-source.invariant.1 c.in_ok-new.ensures.splits

pub returns : goal.returns
returns c =
    let i = c.loop-source.invariant in
    record { started = (omega (arith, i.0, c.loop-source-test.false, c.loop-source.auto.source-index-end), λ k d below. i.1 k d (omega (arith, below, c.loop-source-test.false))) }
