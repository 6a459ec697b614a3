use Rattle.std.proofs.Common.{◌≡◌, ◌<◌, Some, length, ap, subst, sym, ◌∙◌, arith}
use Rattle.std.specs.Prelude.{slice_get, nat_lt}
use Rattle.mixer_places.specs.declared.rings.RingPosition.{RingPosition}
use Rattle.mixer_places.specs.Rings.{end_of}
use Rattle.mixer_places.specs.Lanes.{Waiting, part_end}
use Rattle.mixer_places.specs.LaneInsides.{waiting_in}
use Rattle.mixer_places.specs.SlotStanding.{SlotHolds}
use Rattle.mixer_places.proofs.Holding.{has_waiting_is, part_at, end_read}
use Rattle.mixer_places.proofs.lanes.SourceQueue.has_waiting.Goals as goal
use Rattle.stream_spec.proofs.Plain.{get_read}

pub returns : goal.returns
returns c = λ taken listens waits h.
    let w = waiting_in c.self.inside in
    let p = c.index-part.result.now in
    ap (λ (e : RingPosition). nat_lt p.from.chunks e.chunks) (end_read c.end.result (end_of w.chunks) c.end-end.result p c.end-end.ensures c.end.ensures.place)
    ∙ has_waiting_is w taken listens waits (subst (λ (x : Waiting). SlotHolds x taken listens waits) (sym c.self.view_is) h) c.args.terminal p (part_at w _ c.args.terminal p c.self.view_is c.requires c.index-part.ensures)
