use Rattle.std.proofs.Common.{◌≡◌, Some, List, get_or, set, ap, subst, sym, ◌∙◌}
use Rattle.std.specs.Prelude.{slice_get}
use Rattle.mixer_spec.specs.Table.{is_given}
use Rattle.mixer_places.specs.Words.{fetched}
use Rattle.mixer_places.specs.Lanes.{Waiting}
use Rattle.mixer_places.specs.SlotStanding.{SlotsStandFor}
use Rattle.mixer_places.proofs.Sources.{stands_fetched}
use Rattle.mixer_places.proofs.slots.Slots.take.Goals as goal
use Rattle.stream_spec.proofs.Plain.{get_read}

pub returns-clause-text : goal.returns-clause-text
returns-clause-text c = λ s table h.
    let w = c.index_mut-lane.result.now in
    let g : slice_get c.args.self.now c.args.source ≡ Some w = get_read c.args.self.now c.args.source w c.requires.within.1 (c.index_mut-lane.ensures.value ∙ ap (λ (xs : List Waiting). get_or xs c.args.source w) c.self.view_is) in
    c.take.ensures.text (table.taken c.args.source) (is_given table.seats c.args.source) (λ j. (table.terminals j).waits c.args.source) (h.sources c.args.source w g).holds

pub returns-clause-stands : goal.returns-clause-stands
returns-clause-stands c = λ s table h.
    let w = c.index_mut-lane.result.now in
    let g : slice_get c.args.self.now c.args.source ≡ Some w = get_read c.args.self.now c.args.source w c.requires.within.1 (c.index_mut-lane.ensures.value ∙ ap (λ (xs : List Waiting). get_or xs c.args.source w) c.self.view_is) in
    subst (λ (xs : List Waiting). SlotsStandFor s (set xs c.args.source c.take.new.self) (fetched c.args.terminal c.args.source c.args.room table)) (sym c.self.view_is)
    (stands_fetched s c.args.self.now table c.args.terminal c.args.source c.args.room w c.take.new.self h g c.take.ensures.terminals c.take.ensures.holds)
