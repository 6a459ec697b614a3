use Rattle.std.proofs.Common.{◌≡◌, Some, sym, ◌∙◌}
use Rattle.reorder_buffer.specs.States.{next_latest}
use Rattle.reorder_buffer.proofs.Steps.{settle_follows, settle_same}
use Rattle.reorder_buffer.proofs.holds.Hold.advance.Goals as goal

pub loop-latest-preserved : goal.loop-latest-preserved
loop-latest-preserved c =
    let s = c.loop-latest.self in
    let to = c.in-Some.latest in
    let can : next_latest s ≡ Some to = sym c.next_latest.ensures.value ∙ c.in-Some.is in
    rw c.settle.ensures (record {
      same = settle_same _ s to c.loop-latest.invariant.same;
      stands = λ story f. settle_follows s story to can (c.loop-latest.invariant.stands story f);
    })
