use Rattle.std.proofs.Common.{◌≡◌, true, false, sym, ◌∙◌, arith}
use Rattle.mixer_spec.specs.Table.{is_seated}
use Rattle.mixer_places.specs.Places.{has_place}
use Rattle.mixer.specs.Turns.{turned_below}
use Rattle.mixer.proofs.Few.{few_before, none_more, one_more_where}
use Rattle.mixer.proofs.Putting.{leg_turned, leg_passed}
use Rattle.mixer.proofs.batches.Batch.turn_leg.Goals as goal

pub turn_seated-requires-clause-room : goal.turn_seated-requires-clause-room
turn_seated-requires-clause-room c =
    let less = few_before (has_place c.args.seating.now) c.args.leg _ c.requires.leg (sym c.is_seated.ensures.place ∙ c.if-is_seated.true) in
    omega (arith, less, c.is_seated.ensures.few, c.requires.room)

pub returns-then-is_seated-clause-turned : goal.returns-then-is_seated-clause-turned
returns-then-is_seated-clause-turned c = λ s table now may r.
    let seated : is_seated table.seats c.args.leg ≡ true = sym (c.is_seated.ensures.table s table may.seats) ∙ c.if-is_seated.true in
    leg_turned s table now c.args.media c.args.leg c.args.scheduler.now c.turn_seated.new.scheduler c.args.seating.now c.args.slots.now c.turn_seated.new.slots c.args.names.now c.args.self.now c.turn_seated.new.self may seated r
    (c.turn_seated.ensures.put s c.args.leg (turned_below s now c.args.media table c.args.leg) now)

pub returns-else-is_seated-clause-turned : goal.returns-else-is_seated-clause-turned
returns-else-is_seated-clause-turned c = λ s table now may r.
    let free : is_seated table.seats c.args.leg ≡ false = sym (c.is_seated.ensures.table s table may.seats) ∙ c.if-is_seated.false in
    leg_passed s table now c.args.media c.args.leg c.args.scheduler.now c.args.seating.now c.args.slots.now c.args.names.now c.args.self.now may free r

pub returns-then-is_seated-clause-few : goal.returns-then-is_seated-clause-few
returns-then-is_seated-clause-few c =
    one_more_where (has_place c.args.seating.now) c.args.leg _ _ (sym c.is_seated.ensures.place ∙ c.if-is_seated.true) c.requires.room c.turn_seated.ensures.few

pub returns-else-is_seated-clause-few : goal.returns-else-is_seated-clause-few
returns-else-is_seated-clause-few c = none_more (has_place c.args.seating.now) c.args.leg _ c.requires.room
