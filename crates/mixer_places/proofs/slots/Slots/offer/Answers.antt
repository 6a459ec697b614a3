use Rattle.std.proofs.Common.{◌≡◌, Some, List, get_or, set, ap, subst, sym, ◌∙◌}
use Rattle.std.specs.Prelude.{slice_get}
use Rattle.stream_spec.specs.Ready.{chunk_of}
use Rattle.mixer_spec.specs.Table.{given}
use Rattle.mixer_places.specs.Lanes.{Waiting}
use Rattle.mixer_places.specs.SlotStanding.{SlotsStandFor}
use Rattle.mixer_places.proofs.Sources.{stands_given}
use Rattle.mixer_places.proofs.slots.Slots.offer.Goals as goal
use Rattle.stream_spec.proofs.Plain.{get_read, on_ok_of}

pub returns-clause-ok : goal.returns-clause-ok
returns-clause-ok c =
    let i = c.args.chunk.now.source in
    let w = c.index_mut-lane.result.now in
    let g : slice_get c.args.self.now i ≡ Some w = get_read c.args.self.now i w c.requires.source (c.index_mut-lane.ensures.value ∙ ap (λ (xs : List Waiting). get_or xs i w) c.self.view_is) in
    on_ok_of c.offer.result c.offer.ensures.ok (λ f s table h.
    subst (λ (xs : List Waiting). SlotsStandFor s (set xs i c.offer.new.self) (given i (chunk_of c.args.chunk.now) table)) (sym c.self.view_is)
    (stands_given s c.args.self.now table i w c.offer.new.self (chunk_of c.args.chunk.now) h g c.offer.ensures.terminals (λ taken listens waits k. f taken listens waits (chunk_of c.args.chunk.now) k (sym c.as_slice.ensures.value))))
