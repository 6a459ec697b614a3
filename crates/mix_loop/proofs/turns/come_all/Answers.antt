use Rattle.std.proofs.Common.{◌≡◌, ◌<◌, ℕ, length, get_or, subst, arith}
use Rattle.mixer_spec.specs.Plain.{comes_below}
use Rattle.mix_loop.specs.Turns.{BecomesBy}
use Rattle.mix_loop.specs.Mixers.{Of}
use Rattle.mix_loop.proofs.Offering.{keeps_none, keeps_more}
use Rattle.mix_loop.proofs.Reaching.{becomes_none}
use Rattle.mix_loop.proofs.Walking.{come_more, sound_seat}
use Rattle.mix_loop.proofs.Lists.{get_there}
use Rattle.mix_loop.proofs.turns.come_all.Goals as goal

pub loop-leg-init : goal.loop-leg-init
loop-leg-init g c = (
  c.requires.sound,
  keeps_none g.M.MixerCalls.legs g.M.MixerCalls.turns g.M.MixerCalls.addresses c.args.mixer.now,
  λ s payload_types firsts kn table n. becomes_none g.I.Inlet.stands s firsts (Of g.M.MixerCalls.stands payload_types) kn table c.args.ports.now c.args.mixer.now n,
)

pub come-requires : goal.come-requires
come-requires g c = let e = c.loop-leg.invariant.1.legs in omega (arith, c.loop-leg-test.true, e, c.requires.legs)

pub loop-leg-preserved : goal.loop-leg-preserved
loop-leg-preserved g c =
    let low : c.loop-leg.leg < length c.loop-leg.ports = omega (arith, c.loop-leg-test.true, c.loop-leg.auto.ports) in
    let p = get_or c.loop-leg.ports c.loop-leg.leg c.index-ports-leg.result in
    let at = get_there c.loop-leg.ports c.loop-leg.leg c.index-ports-leg.result low in (
      sound_seat g.I.Inlet.good c.loop-leg.ports c.loop-leg.leg p c.come.new.self c.loop-leg.invariant.0 at c.come.ensures.only,
      keeps_more g.M.MixerCalls.legs g.M.MixerCalls.turns g.M.MixerCalls.addresses c.args.mixer.now c.loop-leg.mixer c.come.new.mixer c.loop-leg.invariant.1 c.come.ensures.keeps,
      λ s payload_types firsts kn table n. come_more g.I.Inlet.stands (Of g.M.MixerCalls.stands payload_types) s firsts kn table c.args.now c.loop-leg.leg c.loop-leg.ports c.loop-leg.mixer p p c.come.new.self c.loop-leg.mixer c.come.new.mixer at (c.loop-leg.invariant.2 s payload_types firsts kn table n) c.come.ensures.only (λ s table. c.come.ensures.comes s payload_types table),
    )

pub returns-clause-comes : goal.returns-clause-comes
returns-clause-comes g c = λ s payload_types firsts kn table n.
    let all : c.loop-leg.leg ≡ s.legs = (let e = n.legs in omega (arith, e, c.loop-leg-test.false, c.loop-leg.auto.leg-end)) in
    subst (λ (j : ℕ). BecomesBy g.I.Inlet.stands (Of g.M.MixerCalls.stands payload_types) s firsts (comes_below s c.args.now j) kn table c.loop-leg.ports c.loop-leg.mixer) all (c.loop-leg.invariant.2 s payload_types firsts kn table n)
