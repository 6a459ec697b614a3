use Rattle.std.proofs.Common.{arith}
use Rattle.mix_loop.specs.Mixers.{Of}
use Rattle.leg.proofs.Telling.{none_gave, plain_mixed}
use Rattle.rtt_mix.proofs.readers.mix_here.Goals as goal

pub returns : goal.returns
returns g c =
    let task = c.args.task in
    let ran = c.mix_inlets-mixing in
    record {
      legs = ran.ensures.inlets;
      mixed = λ s payload_types made e stay.
          let none = none_gave g.S.Source.tells g.S.Source.left g.S.Source.faults g.S.Source.name task.legs.items c.requires.new in
          plain_mixed g.S.Source.tells g.S.Source.left g.S.Source.faults g.S.Source.name (Of g.M.MixerCalls.stands payload_types) s task.tick task.turns ran.result.mixing task.legs.items ran.result.inlets.items ran.new.mixer
          e (omega (arith, ran.ensures.inlets, ran.result.inlets.ok.0, task.legs.ok.0)) (ran.ensures.mixed s payload_types none made e stay);
    }
