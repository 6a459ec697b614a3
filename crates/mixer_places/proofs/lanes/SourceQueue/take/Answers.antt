use Rattle.std.proofs.Common.{◌≡◌, ℕ, ◌+◌, ◌<◌, Some, List, ◌++◌, length, ap, subst, sym, ◌∙◌, arith}
use Rattle.std.specs.Prelude.{slice_get, IsUtf8}
use Rattle.std.proofs.lemmas.Str.{IsUtf8-append}
use Rattle.mixer_spec.specs.Rounds.{set_at}
use Rattle.mixer_spec.specs.Chunks.{behind}
use Rattle.mixer_places.specs.declared.rings.RingPosition.{RingPosition}
use Rattle.mixer_places.specs.Rings.{end_of, chunks_between, count_fitting}
use Rattle.mixer_places.specs.Lanes.{Waiting, part_end}
use Rattle.mixer_places.specs.LaneInsides.{waiting_in}
use Rattle.mixer_places.specs.SlotStanding.{SlotHolds}
use Rattle.mixer_places.proofs.Holding.{bounds_in, part_at, end_read}
use Rattle.mixer_places.proofs.Utf8.{fetched_utf8}
use Rattle.mixer_places.proofs.Taking.{IsFront, took_front, text_front, front_within, front_read}
use Rattle.mixer_places.proofs.lanes.SourceQueue.take.Goals as goal
use Rattle.stream_spec.proofs.Plain.{get_read}

pub place_behind-place-requires-clause-from : goal.place_behind-place-requires-clause-from
place_behind-place-requires-clause-from c =
    let b = bounds_in c.self.inside _ c.args.terminal c.index-part.result.now c.self.invariant c.self.view_is c.requires.terminal c.index-part.ensures in
    omega (arith, b.octets_in_order, b.within, c.end-all.ensures.within, ap (λ (e : RingPosition). e.octets) c.end-all.ensures.place, c.requires.fits)

pub place_behind-place-requires-clause-end : goal.place_behind-place-requires-clause-end
place_behind-place-requires-clause-end c =
    let w = waiting_in c.self.inside in
    let p = c.index-part.result.now in
    let end = end_read c.end-all.result (end_of w.chunks) c.end-end.result p c.end-end.ensures c.end-all.ensures.place in
    let b = bounds_in c.self.inside _ c.args.terminal c.index-part.result.now c.self.invariant c.self.view_is c.requires.terminal c.index-part.ensures in
    omega (arith, b.end.chunks, ap (λ (e : RingPosition). e.chunks) end)

pub append_to-requires-clause-within : goal.append_to-requires-clause-within
append_to-requires-clause-within c =
    let w = waiting_in c.self.inside in
    let p = c.index-part.result.now in
    let old = c.self.invariant in
    let g = part_at w _ c.args.terminal p c.self.view_is c.requires.terminal c.index-part.ensures in
    let end = end_read c.end-all.result (end_of w.chunks) c.end-end.result p c.end-end.ensures c.end-all.ensures.place in
    let f = front_read w.chunks p c.args.room c.end-end.result c.place_behind-place.result end c.place_behind-place.ensures.chunks c.place_behind-place.ensures.octets in
    let b = bounds_in c.self.inside _ c.args.terminal c.index-part.result.now c.self.invariant c.self.view_is c.requires.terminal c.index-part.ensures in
    omega (arith, b.within, front_within w old.taken old.listens old.waits old.holds c.args.terminal p g c.args.room c.place_behind-place.result f)

pub invariant_of-self : goal.invariant_of-self
invariant_of-self c =
    let w = waiting_in c.self.inside in
    let p = c.index-part.result.now in
    let q = c.index_mut.result.now in
    let old = c.self.invariant in
    let g = part_at w _ c.args.terminal p c.self.view_is c.requires.terminal c.index-part.ensures in
    let m = part_at w _ c.args.terminal q c.self.view_is c.requires.terminal c.index_mut.ensures.value in
    let end = end_read c.end-all.result (end_of w.chunks) c.end-end.result p c.end-end.ensures c.end-all.ensures.place in
    let f = front_read w.chunks p c.args.room c.end-end.result c.place_behind-place.result end c.place_behind-place.ensures.chunks c.place_behind-place.ensures.octets in
    record {
      taken = old.taken;
      listens = old.listens;
      waits = set_at old.waits c.args.terminal (behind c.args.room (old.waits c.args.terminal));
      holds = took_front w old.taken old.listens old.waits old.holds c.args.terminal p q g m c.args.room c.place_behind-place.result f;
      utf8 = old.utf8;
    }

pub returns-clause-text : goal.returns-clause-text
returns-clause-text c = λ taken listens waits h.
    let w = waiting_in c.self.inside in
    let p = c.index-part.result.now in
    let g = part_at w _ c.args.terminal p c.self.view_is c.requires.terminal c.index-part.ensures in
    let end = end_read c.end-all.result (end_of w.chunks) c.end-end.result p c.end-end.ensures c.end-all.ensures.place in
    let f = front_read w.chunks p c.args.room c.end-end.result c.place_behind-place.result end c.place_behind-place.ensures.chunks c.place_behind-place.ensures.octets in
    let k : SlotHolds w taken listens waits = subst (λ (x : Waiting). SlotHolds x taken listens waits) (sym c.self.view_is) h in
    c.append_to.ensures ∙ ap (λ (t : List ℕ). c.args.text.now ++ t) (text_front w taken listens waits k c.args.terminal p g c.args.room c.place_behind-place.result f)

pub returns-clause-holds : goal.returns-clause-holds
returns-clause-holds c = λ taken listens waits h.
    let w = waiting_in c.self.inside in
    let p = c.index-part.result.now in
    let q = c.index_mut.result.now in
    let g = part_at w _ c.args.terminal p c.self.view_is c.requires.terminal c.index-part.ensures in
    let m = part_at w _ c.args.terminal q c.self.view_is c.requires.terminal c.index_mut.ensures.value in
    let end = end_read c.end-all.result (end_of w.chunks) c.end-end.result p c.end-end.ensures c.end-all.ensures.place in
    let f = front_read w.chunks p c.args.room c.end-end.result c.place_behind-place.result end c.place_behind-place.ensures.chunks c.place_behind-place.ensures.octets in
    let k : SlotHolds w taken listens waits = subst (λ (x : Waiting). SlotHolds x taken listens waits) (sym c.self.view_is) h in
    took_front w taken listens waits k c.args.terminal p q g m c.args.room c.place_behind-place.result f

pub returns-clause-utf8 : goal.returns-clause-utf8
returns-clause-utf8 c u =
    let w = waiting_in c.self.inside in
    let p = c.index-part.result.now in
    let old = c.self.invariant in
    let g = part_at w _ c.args.terminal p c.self.view_is c.requires.terminal c.index-part.ensures in
    let text = returns-clause-text c old.taken old.listens old.waits (subst (λ (x : Waiting). SlotHolds x old.taken old.listens old.waits) c.self.view_is old.holds) in
    subst IsUtf8 (sym text) (IsUtf8-append c.args.text.now _ u (fetched_utf8 w old.taken old.listens old.waits old.holds old.utf8 c.args.terminal p g c.args.room))
