use Rattle.std.proofs.Common.{◌≡◌, ◌-◌, ◌<◌, Some, length, ap, subst, sym, ◌∙◌, arith}
use Rattle.std.specs.Prelude.{slice_get}
use Rattle.mixer_places.specs.declared.rings.RingPosition.{RingPosition}
use Rattle.mixer_places.specs.Rings.{end_of}
use Rattle.mixer_places.specs.Lanes.{Waiting, part_end}
use Rattle.mixer_places.specs.LaneInsides.{waiting_in}
use Rattle.mixer_places.specs.SlotStanding.{SlotHolds}
use Rattle.mixer_places.proofs.Holding.{bounds_in, waiting_is, part_at, end_read}
use Rattle.mixer_places.proofs.lanes.SourceQueue.waiting.Goals as goal
use Rattle.stream_spec.proofs.Plain.{get_read}

pub overflow_sub-result : goal.overflow_sub-result
overflow_sub-result c =
    let w = waiting_in c.self.inside in
    let p = c.index-part.result.now in
    let end = end_read c.end.result (end_of w.chunks) c.end-end.result p c.end-end.ensures c.end.ensures.place in
    let b = bounds_in c.self.inside _ c.args.terminal p c.self.invariant c.self.view_is c.requires c.index-part.ensures in
    omega (arith, b.octets_in_order, ap (λ (e : RingPosition). e.octets) end)

pub returns : goal.returns
returns c = λ taken listens waits h.
    let w = waiting_in c.self.inside in
    let p = c.index-part.result.now in
    let g = part_at w _ c.args.terminal p c.self.view_is c.requires c.index-part.ensures in
    let end = end_read c.end.result (end_of w.chunks) c.end-end.result p c.end-end.ensures c.end.ensures.place in
    let k : SlotHolds w taken listens waits = subst (λ (x : Waiting). SlotHolds x taken listens waits) (sym c.self.view_is) h in
    ap (λ (e : RingPosition). e.octets - p.from.octets) end ∙ waiting_is w taken listens waits k c.args.terminal p g
