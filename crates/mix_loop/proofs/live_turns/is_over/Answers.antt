use Rattle.std.proofs.Common.{subst}
use Rattle.std.specs.Prelude.{Bool}
use Rattle.mix_loop.specs.Mixers.{TellsIdle}
use Rattle.mix_loop.proofs.live_turns.is_over.Goals as goal

pub returns-clause-idle : goal.returns-clause-idle
returns-clause-idle g c = λ e. subst (λ (b : Bool). TellsIdle g.M.MixerCalls.stands c.args.mixer.now b) e c.idle.ensures

pub returns-clause-goes_on : goal.returns-clause-goes_on
returns-clause-goes_on g c = λ e spent. subst (λ (b : Bool). TellsIdle g.M.MixerCalls.stands c.args.mixer.now b) e c.idle.ensures
