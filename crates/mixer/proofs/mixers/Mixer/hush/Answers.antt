use Rattle.std.proofs.Common.{subst, sym}
use Rattle.mixer_spec.specs.Table.{after_calls}
use Rattle.mixer.specs.States.{State}
use Rattle.mixer.specs.Insides.{state_of}
use Rattle.mixer.specs.Standing.{MixerStandsFor}
use Rattle.mixer.proofs.Calling.{stands_hushed}
use Rattle.mixer.proofs.mixers.Mixer.hush.Goals as goal

pub returns-clause-stands : goal.returns-clause-stands
returns-clause-stands c = λ s calls h a.
    let table = after_calls s calls in
    let k = subst (λ (m : State). MixerStandsFor s m calls) (sym c.self.view_is) h in
    stands_hushed s (state_of c.self.inside) calls c.args.leg c.hush.new.self c.listen.new.self k a (c.hush.ensures.stands s table k.keeps.seats) (c.listen.ensures.stands s table k.keeps.waits (λ e. cc e))
