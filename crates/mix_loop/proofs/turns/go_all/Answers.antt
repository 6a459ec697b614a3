use Rattle.std.proofs.Common.{◌≡◌, ◌<◌, ℕ, length, get_or, subst, arith}
use Rattle.mixer_spec.specs.Plain.{goes_below}
use Rattle.mix_loop.specs.Turns.{BecomesBy}
use Rattle.mix_loop.specs.Mixers.{Of}
use Rattle.mix_loop.proofs.Offering.{keeps_none, keeps_more}
use Rattle.mix_loop.proofs.Walking.{go_none, go_more, sound_seat, only_more}
use Rattle.mix_loop.proofs.Lists.{get_there}
use Rattle.mix_loop.proofs.turns.go_all.Goals as goal

pub loop-leg-init : goal.loop-leg-init
loop-leg-init g c = (
  c.requires.sound,
  keeps_none g.M.MixerCalls.legs g.M.MixerCalls.turns g.M.MixerCalls.addresses c.args.mixer.now,
  λ s payload_types firsts kn table n h. go_none g.I.Inlet.stands (Of g.M.MixerCalls.stands payload_types) s firsts kn table c.args.now c.args.ports.now c.args.mixer.now n h,
)

pub loop-leg-preserved : goal.loop-leg-preserved
loop-leg-preserved g c =
    let low : c.loop-leg.leg < length c.loop-leg.ports = omega (arith, c.loop-leg-test.true, c.loop-leg.auto.ports) in
    let p = get_or c.loop-leg.ports c.loop-leg.leg c.index-ports-leg.result in
    let at = get_there c.loop-leg.ports c.loop-leg.leg c.index-ports-leg.result low in (
      sound_seat g.I.Inlet.good c.loop-leg.ports c.loop-leg.leg p c.leave.new.self c.loop-leg.invariant.0 at
          (only_more p c.stop.new.self c.leave.new.self c.stop.ensures.only c.leave.ensures.only),
      keeps_more g.M.MixerCalls.legs g.M.MixerCalls.turns g.M.MixerCalls.addresses c.args.mixer.now c.loop-leg.mixer c.leave.new.mixer c.loop-leg.invariant.1
          (keeps_more g.M.MixerCalls.legs g.M.MixerCalls.turns g.M.MixerCalls.addresses c.loop-leg.mixer c.stop.new.mixer c.leave.new.mixer c.stop.ensures.keeps c.leave.ensures.keeps),
      λ s payload_types firsts kn table n h. go_more g.I.Inlet.stands (Of g.M.MixerCalls.stands payload_types) s firsts kn table c.args.now c.loop-leg.leg c.loop-leg.ports c.loop-leg.mixer p c.stop.new.self c.leave.new.self c.stop.new.mixer c.leave.new.mixer at (c.loop-leg.invariant.2 s payload_types firsts kn table n h) c.stop.ensures.only c.stop.ensures.away (λ s table. c.stop.ensures.stops s payload_types table) c.leave.ensures.only c.leave.ensures.away (λ s table. c.leave.ensures.leaves s payload_types table),
    )

pub stop-requires : goal.stop-requires
stop-requires g c = let e = c.loop-leg.invariant.1.legs in omega (arith, c.loop-leg-test.true, e, c.requires.legs)

pub leave-requires : goal.leave-requires
leave-requires g c =
    let e = c.loop-leg.invariant.1.legs in
    let f = c.stop.ensures.keeps.legs in
    omega (arith, c.loop-leg-test.true, e, f, c.requires.legs)

pub returns-clause-goes : goal.returns-clause-goes
returns-clause-goes g c = λ s payload_types firsts kn table n h.
    let all : c.loop-leg.leg ≡ s.legs = (let e = n.legs in omega (arith, e, c.loop-leg-test.false, c.loop-leg.auto.leg-end)) in
    subst (λ (j : ℕ). BecomesBy g.I.Inlet.stands (Of g.M.MixerCalls.stands payload_types) s firsts (goes_below s c.args.now j) kn table c.loop-leg.ports c.loop-leg.mixer) all (c.loop-leg.invariant.2 s payload_types firsts kn table n h).becomes
