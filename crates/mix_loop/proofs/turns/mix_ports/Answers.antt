use Rattle.std.proofs.Common.{refl}
use Rattle.mix_loop.specs.Mixers.{Of}
use Rattle.mix_loop.proofs.Turning.{fresh_now, fresh_before}
use Rattle.mix_loop.proofs.Finding.{faulted_tells, end_tells}
use Rattle.mix_loop.proofs.turns.mix_ports.Goals as goal

pub returns-in-Some-clause-mixed : goal.returns-in-Some-clause-mixed
returns-in-Some-clause-mixed g c = λ s payload_types firsts fresh m e.
    let now = fresh_now g.I.Inlet.stands (Of g.M.MixerCalls.stands payload_types) s firsts c.args.ports.now c.args.mixer.now fresh m e in
    let turned = c.take_turns-turned.ensures.turned s payload_types firsts _ _ now (fresh_before s c.args.tick c.args.turns) in
    let drains = c.drain_all.ensures.drains s firsts turned.kn turned.known in
    faulted_tells g.I.Inlet.stands (Of g.M.MixerCalls.stands payload_types) s firsts c.args.tick c.args.turns c.take_turns-turned.result c.take_turns-turned.new.ports c.drain_all.new.ports c.take_turns-turned.new.mixer
    turned c.drain_all.auto.ports drains c.in-Some.lowest.0 c.in-Some.lowest.1 c.in-Some.ensures

pub returns-in-None-clause-mixed : goal.returns-in-None-clause-mixed
returns-in-None-clause-mixed g c = λ s payload_types firsts fresh m e.
    let now = fresh_now g.I.Inlet.stands (Of g.M.MixerCalls.stands payload_types) s firsts c.args.ports.now c.args.mixer.now fresh m e in
    let turned = c.take_turns-turned.ensures.turned s payload_types firsts _ _ now (fresh_before s c.args.tick c.args.turns) in
    let drains = c.drain_all.ensures.drains s firsts turned.kn turned.known in
    rw c.mixing_of.ensures
    (end_tells g.I.Inlet.stands (Of g.M.MixerCalls.stands payload_types) s firsts c.args.tick c.args.turns c.take_turns-turned.result c.take_turns-turned.new.ports c.drain_all.new.ports c.take_turns-turned.new.mixer
    turned c.drain_all.auto.ports drains c.in-None.ensures c.take_turns-turned.result refl)
