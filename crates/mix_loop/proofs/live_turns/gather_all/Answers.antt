use Rattle.std.proofs.Common.{◌≡◌, ◌<◌, ℕ, length, get_or, subst, ◌∙◌, arith}
use Rattle.mix_loop.proofs.Offering.{keeps_none, keeps_more}
use Rattle.mix_loop.proofs.Lists.{get_there}
use Rattle.live_spec.specs.Live.{at_last}
use Rattle.mix_loop.specs.Walks.{WalkedTo}
use Rattle.mix_loop.proofs.LiveWalking.{at_set, none_grew, one_grew, walk_more, walk_none, walked}
use Rattle.mix_loop.proofs.live_turns.gather_all.Goals as goal

pub loop-leg-init : goal.loop-leg-init
loop-leg-init g c = (
  c.requires.at,
  keeps_none g.M.MixerCalls.legs g.M.MixerCalls.turns g.M.MixerCalls.addresses c.args.mixer.now,
  none_grew g.I.Consumer.popped g.I.Consumer.began c.args.ports.now,
  λ s payload_types calls last legs made at. walk_none g.I.Consumer.popped g.I.Consumer.began g.M.MixerCalls.stands s payload_types calls last c.args.ports.now c.args.mixer.now made at,
)

pub gather-requires : goal.gather-requires
gather-requires g c =
    let e = c.loop-leg.invariant.1.legs in
    let low : c.loop-leg.leg < length c.loop-leg.ports = omega (arith, c.loop-leg-test.true, c.loop-leg.auto.ports) in
    let p = get_or c.loop-leg.ports c.loop-leg.leg c.index-ports-leg.result in
    let at = get_there c.loop-leg.ports c.loop-leg.leg c.index-ports-leg.result low in
    let here = c.loop-leg.invariant.0 c.loop-leg.leg p at in
    omega (arith, c.loop-leg-test.true, e, here, c.requires.legs)

pub loop-leg-preserved : goal.loop-leg-preserved
loop-leg-preserved g c =
    let low : c.loop-leg.leg < length c.loop-leg.ports = omega (arith, c.loop-leg-test.true, c.loop-leg.auto.ports) in
    let p = get_or c.loop-leg.ports c.loop-leg.leg c.index-ports-leg.result in
    let at = get_there c.loop-leg.ports c.loop-leg.leg c.index-ports-leg.result low in
    let here = c.loop-leg.invariant.0 c.loop-leg.leg p at in (
      at_set c.loop-leg.ports c.loop-leg.leg c.gather.new.self c.loop-leg.invariant.0 low (c.gather.ensures.leg ∙ here),
      keeps_more g.M.MixerCalls.legs g.M.MixerCalls.turns g.M.MixerCalls.addresses c.args.mixer.now c.loop-leg.mixer c.gather.new.mixer c.loop-leg.invariant.1 c.gather.ensures.keeps,
      one_grew g.I.Consumer.popped g.I.Consumer.began c.args.ports.now c.loop-leg.ports c.loop-leg.leg p c.gather.new.self at c.gather.ensures.grew c.loop-leg.invariant.2,
      λ s payload_types calls last legs made has. walk_more g.I.Consumer.popped g.I.Consumer.began g.M.MixerCalls.stands s payload_types calls last c.loop-leg.leg c.loop-leg.ports c.loop-leg.mixer c.gather.new.mixer p c.gather.new.self (omega (arith, legs, c.loop-leg-test.true, c.loop-leg.auto.leg-end)) at here c.gather.ensures.gathered (c.loop-leg.invariant.3 s payload_types calls last legs made has),
    )

pub returns-clause-gathered : goal.returns-clause-gathered
returns-clause-gathered g c = λ s payload_types turns legs v.
    let all : c.loop-leg.leg ≡ length c.loop-leg.ports = omega (arith, c.loop-leg-test.false, c.loop-leg.auto.leg-end, c.loop-leg.auto.ports) in
    let w = c.loop-leg.invariant.3 s payload_types v.calls (at_last v.counts) legs v.made v.at in
    walked g.I.Consumer.popped g.I.Consumer.began g.M.MixerCalls.stands s payload_types turns c.args.ports.now c.loop-leg.ports c.args.mixer.now c.loop-leg.mixer c.loop-leg.invariant.2 v
    (subst (λ (n : ℕ). WalkedTo g.I.Consumer.popped g.M.MixerCalls.stands s payload_types v.calls (at_last v.counts) n c.loop-leg.ports c.loop-leg.mixer) all w)
