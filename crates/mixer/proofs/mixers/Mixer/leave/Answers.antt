use Rattle.std.proofs.Common.{subst, sym}
use Rattle.mixer_spec.specs.Table.{after_calls}
use Rattle.mixer.specs.States.{State}
use Rattle.mixer.specs.Insides.{state_of}
use Rattle.mixer.specs.Standing.{MixerStandsFor}
use Rattle.mixer.proofs.Calling.{stands_left, stands_stays}
use Rattle.mixer.proofs.mixers.Mixer.leave.Goals as goal

pub returns-then-not-may_leave-clause-stands : goal.returns-then-not-may_leave-clause-stands
returns-then-not-may_leave-clause-stands c = λ s calls h a. stands_stays s c.args.self.now calls c.args.leg h a (c.if-not-may_leave.ensures s calls h)

pub returns-clause-stands : goal.returns-clause-stands
returns-clause-stands c = λ s calls h a.
    let k = subst (λ (m : State). MixerStandsFor s m calls) (sym c.self.view_is) h in
    stands_left s (state_of c.self.inside) calls c.args.leg c.free.new.self k a (c.if-not-may_leave.ensures s calls h) (c.free.ensures.stands s (after_calls s calls) k.keeps.seats)
