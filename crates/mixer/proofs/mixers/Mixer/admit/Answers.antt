use Rattle.std.proofs.Common.{subst, sym}
use Rattle.mixer_spec.specs.Table.{after_calls}
use Rattle.mixer.specs.States.{State}
use Rattle.mixer.specs.Insides.{state_of}
use Rattle.mixer.specs.Standing.{MixerStandsFor}
use Rattle.mixer.proofs.Calling.{nobody_there, none_waits, stands_come, stands_full}
use Rattle.mixer.proofs.mixers.Mixer.admit.Goals as goal

pub returns-then-not-admit-clause-stands : goal.returns-then-not-admit-clause-stands
returns-then-not-admit-clause-stands c = λ s calls h a.
    let table = after_calls s calls in
    let k = subst (λ (m : State). MixerStandsFor s m calls) (sym c.self.view_is) h in
    stands_full s (state_of c.self.inside) calls c.args.leg c.args.listens c.admit.new.self k a (c.if-not-admit.ensures.free s table k.keeps.seats)
    (c.admit.ensures.stands s table k.keeps.seats (nobody_there s (state_of c.self.inside) calls c.args.leg c.args.listens k a))

pub returns-clause-stands : goal.returns-clause-stands
returns-clause-stands c = λ s calls h a.
    let table = after_calls s calls in
    let k = subst (λ (m : State). MixerStandsFor s m calls) (sym c.self.view_is) h in
    stands_come s (state_of c.self.inside) calls c.args.leg c.args.listens c.admit.new.self c.listen.new.self k a (c.if-not-admit.ensures.free s table k.keeps.seats)
    (c.admit.ensures.stands s table k.keeps.seats (nobody_there s (state_of c.self.inside) calls c.args.leg c.args.listens k a))
    (c.listen.ensures.stands s table k.keeps.waits (λ e. none_waits s (state_of c.self.inside) calls c.args.leg c.args.listens k a))
