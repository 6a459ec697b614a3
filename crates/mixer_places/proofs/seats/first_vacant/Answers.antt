use Rattle.std.proofs.Common.{◌≡◌, true, false, not, length, ap, ◌∙◌}
use Rattle.mixer_places.specs.Places.{is_vacant}
use Rattle.mixer_places.proofs.Keeping.{first_more, first_here, vacant_read}
use Rattle.mixer_places.proofs.seats.first_vacant.Goals as goal

pub loop-place-preserved : goal.loop-place-preserved
loop-place-preserved c =
    let xs = c.args.holders.now in
    let held : is_vacant xs c.loop-place.place ≡ false = vacant_read xs c.loop-place.place c.loop-place-test.true ∙ ap not c.if-is_none.ensures in
    first_more (is_vacant xs) c.loop-place.place (length xs) c.loop-place-test.true held ∙ c.loop-place.invariant

pub returns-then-is_none : goal.returns-then-is_none
returns-then-is_none c =
    let xs = c.args.holders.now in
    let free : is_vacant xs c.loop-place.place ≡ true = vacant_read xs c.loop-place.place c.loop-place-test.true ∙ ap not c.if-is_none.ensures in
    first_here (is_vacant xs) c.loop-place.place (length xs) c.loop-place-test.true free ∙ c.loop-place.invariant
