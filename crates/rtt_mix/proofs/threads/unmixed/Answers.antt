use Rattle.std.proofs.Common.{refl}
use Rattle.mix_loop.specs.Mixers.{Of}
use Rattle.rtt_mix.proofs.Reading.{not_mixed}
use Rattle.rtt_mix.proofs.threads.unmixed.Goals as goal

pub returns : goal.returns
returns g c =
    let task = c.args.task in
    record {
      legs = refl;
      mixed = λ s payload_types made e stay. not_mixed g.S.Source.tells g.S.Source.left g.S.Source.faults g.S.Source.name (Of g.M.MixerCalls.stands payload_types) s task.tick task.turns _ task.legs.items task.mixer;
    }
