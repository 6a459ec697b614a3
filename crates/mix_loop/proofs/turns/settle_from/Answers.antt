use Rattle.mix_loop.specs.Mixers.{Of}
use Rattle.mix_loop.proofs.Calm.{calm_settles}
use Rattle.mix_loop.proofs.turns.settle_from.Goals as goal

pub returns-then-now-calm-clause-settles : goal.returns-then-now-calm-clause-settles
returns-then-now-calm-clause-settles g c = λ s payload_types firsts kn table n settled.
    calm_settles g.I.Inlet.stands (Of g.M.MixerCalls.stands payload_types) s firsts c.args.now kn table c.args.ports.now c.args.mixer.now n (c.requires.calm c.args.now c.if-now-calm.true)
