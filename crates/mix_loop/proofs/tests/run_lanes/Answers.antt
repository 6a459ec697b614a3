use Rattle.mix_loop.proofs.LiveOpening.{at_begun}
use Rattle.mix_loop.proofs.tests.run_lanes.Goals as goal

pub turn_and_drain-turned-requires-clause-at : goal.turn_and_drain-turned-requires-clause-at
turn_and_drain-turned-requires-clause-at g c = at_begun c.ports_over-ports.result.items c.as_mut_slice.result.now c.as_mut_slice.ensures.value c.ports_over-ports.ensures.each
