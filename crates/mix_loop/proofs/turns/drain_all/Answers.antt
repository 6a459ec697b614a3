use Rattle.std.proofs.Common.{◌≡◌, ◌<◌, ℕ, length, subst, arith}
use Rattle.mix_loop.specs.Turns.{DrainsTo}
use Rattle.mix_loop.proofs.Walking.{sound_read, sound_set}
use Rattle.mix_loop.proofs.Finding.{drains_none, drains_more}
use Rattle.mix_loop.proofs.Lists.{get_there}
use Rattle.mix_loop.proofs.turns.drain_all.Goals as goal

pub loop-leg-init : goal.loop-leg-init
loop-leg-init g c = (c.requires.sound, λ s firsts kn known. drains_none g.I.Inlet.stands s firsts kn c.args.ports.now known)

pub drain-requires-clause-few : goal.drain-requires-clause-few
drain-requires-clause-few g c = omega (arith, c.loop-leg-test.true, c.loop-leg.auto.ports, c.requires.few)

pub drain-requires-clause-sound : goal.drain-requires-clause-sound
drain-requires-clause-sound g c = sound_read g.I.Inlet.good c.loop-leg.ports c.loop-leg.leg c.index-ports-leg.result c.loop-leg.invariant.0 (omega (arith, c.loop-leg-test.true, c.loop-leg.auto.ports))

pub loop-leg-preserved : goal.loop-leg-preserved
loop-leg-preserved g c =
    let low : c.loop-leg.leg < length c.loop-leg.ports = omega (arith, c.loop-leg-test.true, c.loop-leg.auto.ports) in (
      sound_set g.I.Inlet.good c.loop-leg.ports c.loop-leg.leg c.drain.new.self c.loop-leg.invariant.0 low c.drain.ensures.sound,
      λ s firsts kn known. drains_more g.I.Inlet.stands s firsts kn c.loop-leg.leg c.loop-leg.ports _ c.drain.new.self (c.loop-leg.invariant.1 s firsts kn known) (get_there c.loop-leg.ports c.loop-leg.leg c.index-ports-leg.result low) c.drain.ensures.same c.drain.ensures.closed c.drain.ensures.drained,
    )

pub returns-clause-drains : goal.returns-clause-drains
returns-clause-drains g c = λ s firsts kn known.
    let all : c.loop-leg.leg ≡ length c.loop-leg.ports = omega (arith, c.loop-leg-test.false, c.loop-leg.auto.leg-end, c.loop-leg.auto.ports) in
    subst (λ (j : ℕ). DrainsTo g.I.Inlet.stands s firsts j kn c.loop-leg.ports) all (c.loop-leg.invariant.1 s firsts kn known)
