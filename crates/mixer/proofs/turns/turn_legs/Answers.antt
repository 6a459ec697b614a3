use Rattle.std.proofs.Common.{◌≡◌, ℕ, ◌+◌, suc, subst, sym, ◌∙◌, arith}
use Rattle.std.specs.Prelude.{slice_index_or}
use Rattle.mixer.proofs.Looping.{Turning, next_read, one_more, scheduler_read, all_had, whole_turn}
use Rattle.mixer.proofs.turns.turn_legs.Goals as goal

pub turn_leg-requires-clause-slots : goal.turn_leg-requires-clause-slots
turn_leg-requires-clause-slots c =
    let k = next_read c.args.media c.loop-leg.leg c.args.schedulers.now c.args.seating.now c.args.slots.now c.args.names.now c.loop-leg.schedulers c.loop-leg.slots c.loop-leg.batch c.index-schedulers-leg.result c.requires.schedulers c.loop-leg.invariant.0 (omega (arith, c.loop-leg-test.true, c.loop-leg.invariant.0.legs)) c.index-schedulers-leg.is in
    c.loop-leg.invariant.0.slots ∙ sym k.all

pub turn_leg-requires-clause-names : goal.turn_leg-requires-clause-names
turn_leg-requires-clause-names c =
    let k = next_read c.args.media c.loop-leg.leg c.args.schedulers.now c.args.seating.now c.args.slots.now c.args.names.now c.loop-leg.schedulers c.loop-leg.slots c.loop-leg.batch c.index-schedulers-leg.result c.requires.schedulers c.loop-leg.invariant.0 (omega (arith, c.loop-leg-test.true, c.loop-leg.invariant.0.legs)) c.index-schedulers-leg.is in
    c.requires.names ∙ sym k.all

pub turn_leg-requires-clause-seating : goal.turn_leg-requires-clause-seating
turn_leg-requires-clause-seating c =
    let k = next_read c.args.media c.loop-leg.leg c.args.schedulers.now c.args.seating.now c.args.slots.now c.args.names.now c.loop-leg.schedulers c.loop-leg.slots c.loop-leg.batch c.index-schedulers-leg.result c.requires.schedulers c.loop-leg.invariant.0 (omega (arith, c.loop-leg-test.true, c.loop-leg.invariant.0.legs)) c.index-schedulers-leg.is in
    c.requires.seating ∙ sym k.all

pub turn_leg-requires-clause-rises : goal.turn_leg-requires-clause-rises
turn_leg-requires-clause-rises c =
    let k = next_read c.args.media c.loop-leg.leg c.args.schedulers.now c.args.seating.now c.args.slots.now c.args.names.now c.loop-leg.schedulers c.loop-leg.slots c.loop-leg.batch c.index-schedulers-leg.result c.requires.schedulers c.loop-leg.invariant.0 (omega (arith, c.loop-leg-test.true, c.loop-leg.invariant.0.legs)) c.index-schedulers-leg.is in
    k.next

pub loop-leg-preserved : goal.loop-leg-preserved
loop-leg-preserved c =
    let g = scheduler_read c.loop-leg.schedulers c.loop-leg.leg c.index-schedulers-leg.result (omega (arith, c.loop-leg-test.true, c.loop-leg.invariant.0.legs)) c.index-schedulers-leg.is in
    let one : suc c.loop-leg.leg ≡ c.loop-leg.leg + 1 = omega arith in (
      subst (λ (n : ℕ). Turning c.args.media n c.args.schedulers.now c.args.seating.now c.args.slots.now c.args.names.now (Rattle.std.specs.Prelude.slice_set c.loop-leg.schedulers c.loop-leg.leg c.turn_leg.new.scheduler) c.turn_leg.new.slots c.turn_leg.new.self) one
          (one_more c.args.media c.loop-leg.leg c.args.schedulers.now c.args.seating.now c.args.slots.now c.args.names.now c.loop-leg.schedulers c.loop-leg.slots c.turn_leg.new.slots c.loop-leg.batch c.turn_leg.new.self
          (slice_index_or c.loop-leg.schedulers c.loop-leg.leg c.index-schedulers-leg.result) c.turn_leg.new.scheduler c.requires.schedulers c.loop-leg.invariant.0 g c.turn_leg.ensures.same c.turn_leg.ensures.next c.turn_leg.ensures.slots c.turn_leg.ensures.turned c.turn_leg.ensures.posts),
      c.turn_leg.ensures.few,
    )

pub returns-clause-turned : goal.returns-clause-turned
returns-clause-turned c =
    whole_turn c.args.media c.loop-leg.leg c.args.schedulers.now c.args.seating.now c.args.slots.now c.args.names.now c.loop-leg.schedulers c.loop-leg.slots c.loop-leg.batch c.loop-leg.invariant.0
    (omega (arith, c.loop-leg-test.false, c.loop-leg.auto.leg-end))

pub returns-clause-schedulers : goal.returns-clause-schedulers
returns-clause-schedulers c =
    all_had c.args.media c.loop-leg.leg c.args.schedulers.now c.args.seating.now c.args.slots.now c.args.names.now c.loop-leg.schedulers c.loop-leg.slots c.loop-leg.batch c.loop-leg.invariant.0 c.loop-leg-test.false

pub returns-clause-sources : goal.returns-clause-sources
returns-clause-sources c = c.loop-leg.invariant.0.sources

pub returns-clause-posts : goal.returns-clause-posts
returns-clause-posts c = c.loop-leg.invariant.0.posts
