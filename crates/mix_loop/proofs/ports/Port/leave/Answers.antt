use Rattle.std.proofs.Common.{sym, ◌∙◌}
use Rattle.mix_loop.specs.Mixers.{Of}
use Rattle.mix_loop.proofs.Leaving.{leaves, not_leaves, still_there}
use Rattle.mix_loop.proofs.ports.Port.leave.Goals as goal

pub returns-then-not-is_to_leave-clause-leaves : goal.returns-then-not-is_to_leave-clause-leaves
returns-then-not-is_to_leave-clause-leaves g c = λ s payload_types table h a. not_leaves (Of g.M.MixerCalls.stands payload_types) s c.args.leg table c.args.self.now c.args.mixer.now c.args.mixer.now a h (sym c.is_to_leave.ensures ∙ c.if-not-is_to_leave.true)

pub returns-then-not-leave-clause-leaves : goal.returns-then-not-leave-clause-leaves
returns-then-not-leave-clause-leaves g c = λ s payload_types table h a. still_there (Of g.M.MixerCalls.stands payload_types) s c.args.leg table c.args.self.now c.args.mixer.now c.leave.new.self a h (sym c.is_to_leave.ensures ∙ c.if-not-is_to_leave.false) c.leave.result c.if-not-leave.true (λ s calls. c.leave.ensures.left s payload_types calls)

pub returns-clause-leaves : goal.returns-clause-leaves
returns-clause-leaves g c = λ s payload_types table h a. leaves (Of g.M.MixerCalls.stands payload_types) s c.args.leg table c.args.self.now c.args.mixer.now c.leave.new.self a h (sym c.is_to_leave.ensures ∙ c.if-not-is_to_leave.false) c.leave.result c.if-not-leave.false (λ s calls. c.leave.ensures.left s payload_types calls)
