use Rattle.std.proofs.Common.{arith}
use Rattle.reorder_buffer.proofs.Places.{above_more}
use Rattle.reorder_buffer.proofs.holds.place_of.Goals as goal

pub loop-place-preserved : goal.loop-place-preserved
loop-place-preserved c = record {
  within = omega (arith, c.loop-place.invariant.within);
  above = λ packets. above_more packets c.args.number c.args.held.now c.loop-place.place _ c.loop-place-test.true c.loop-place.invariant.within c.if-held-place.true (c.loop-place.invariant.above packets);
}
