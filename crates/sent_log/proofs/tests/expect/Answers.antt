use Rattle.sent_log.proofs.tests.expect.Goals as goal

pub loop-number-init : goal.loop-number-init
loop-number-init g c = c.in_ok-made.ensures

pub packet-now-requires-clause-pen : goal.packet-now-requires-clause-pen
packet-now-requires-clause-pen g c = c.loop-number.invariant

pub loop-number-preserved : goal.loop-number-preserved
loop-number-preserved g c = c.packet-now.ensures.pen
