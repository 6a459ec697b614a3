use Rattle.std.proofs.Common.{◌≡◌, ◌<◌, ℕ, length, get_or, subst, arith}
use Rattle.mixer_spec.specs.Plain.{offers_below}
use Rattle.mix_loop.specs.Turns.{OffersBy}
use Rattle.mix_loop.specs.Mixers.{Of}
use Rattle.mix_loop.proofs.Offering.{keeps_none, keeps_more}
use Rattle.mix_loop.proofs.Reaching.{becomes_none}
use Rattle.mix_loop.proofs.Walking.{offer_more, sound_read, sound_set}
use Rattle.mix_loop.proofs.Lists.{get_there}
use Rattle.mix_loop.proofs.turns.gather_all.Goals as goal

pub loop-leg-init : goal.loop-leg-init
loop-leg-init g c = (
  c.requires.sound,
  keeps_none g.M.MixerCalls.legs g.M.MixerCalls.turns g.M.MixerCalls.addresses c.args.mixer.now,
  λ s payload_types firsts kn table n. record { becomes = becomes_none g.I.Inlet.stands s firsts (Of g.M.MixerCalls.stands payload_types) kn table c.args.ports.now c.args.mixer.now n; settled = λ j low. absurd (omega arith) },
)

pub gather-requires-clause-few : goal.gather-requires-clause-few
gather-requires-clause-few g c = omega (arith, c.loop-leg-test.true, c.loop-leg.auto.ports, c.requires.few)

pub gather-requires-clause-leg : goal.gather-requires-clause-leg
gather-requires-clause-leg g c = let e = c.loop-leg.invariant.1.legs in omega (arith, c.loop-leg-test.true, e, c.requires.legs)

pub gather-requires-clause-sound : goal.gather-requires-clause-sound
gather-requires-clause-sound g c = sound_read g.I.Inlet.good c.loop-leg.ports c.loop-leg.leg c.index-ports-leg.result c.loop-leg.invariant.0 (omega (arith, c.loop-leg-test.true, c.loop-leg.auto.ports))

pub loop-leg-preserved : goal.loop-leg-preserved
loop-leg-preserved g c =
    let low : c.loop-leg.leg < length c.loop-leg.ports = omega (arith, c.loop-leg-test.true, c.loop-leg.auto.ports) in
    let p = get_or c.loop-leg.ports c.loop-leg.leg c.index-ports-leg.result in
    let at = get_there c.loop-leg.ports c.loop-leg.leg c.index-ports-leg.result low in (
      sound_set g.I.Inlet.good c.loop-leg.ports c.loop-leg.leg c.gather.new.self c.loop-leg.invariant.0 low c.gather.ensures.sound,
      keeps_more g.M.MixerCalls.legs g.M.MixerCalls.turns g.M.MixerCalls.addresses c.args.mixer.now c.loop-leg.mixer c.gather.new.mixer c.loop-leg.invariant.1 c.gather.ensures.keeps,
      λ s payload_types firsts kn table n. offer_more g.I.Inlet.stands (Of g.M.MixerCalls.stands payload_types) s firsts kn table c.args.now c.loop-leg.leg c.loop-leg.ports c.loop-leg.mixer p p c.gather.new.self c.loop-leg.mixer c.gather.new.mixer at (c.loop-leg.invariant.2 s payload_types firsts kn table n) c.gather.ensures.same (λ s table first gave. c.gather.ensures.gathered s payload_types table first gave),
    )

pub returns-clause-offers : goal.returns-clause-offers
returns-clause-offers g c = λ s payload_types firsts kn table n.
    let all : c.loop-leg.leg ≡ s.legs = (let e = n.legs in omega (arith, e, c.loop-leg-test.false, c.loop-leg.auto.leg-end)) in
    subst (λ (j : ℕ). OffersBy g.I.Inlet.stands (Of g.M.MixerCalls.stands payload_types) s firsts j (offers_below s c.args.now j) kn table c.loop-leg.ports c.loop-leg.mixer) all (c.loop-leg.invariant.2 s payload_types firsts kn table n)
