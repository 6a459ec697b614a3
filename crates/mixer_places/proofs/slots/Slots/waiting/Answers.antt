use Rattle.std.proofs.Common.{◌≡◌, Some, List, get_or, ap, ◌∙◌}
use Rattle.std.specs.Prelude.{slice_get}
use Rattle.mixer_spec.specs.Table.{is_given}
use Rattle.mixer_places.specs.Lanes.{Waiting}
use Rattle.mixer_places.proofs.slots.Slots.waiting.Goals as goal
use Rattle.stream_spec.proofs.Plain.{get_read}

pub returns : goal.returns
returns c = λ s table h.
    let w = c.index-lane.result.now in
    let g : slice_get c.args.self.now c.args.source ≡ Some w = get_read c.args.self.now c.args.source w c.requires.1 (c.index-lane.ensures ∙ ap (λ (xs : List Waiting). get_or xs c.args.source w) c.self.view_is) in
    c.waiting.ensures (table.taken c.args.source) (is_given table.seats c.args.source) (λ j. (table.terminals j).waits c.args.source) (h.sources c.args.source w g).holds
