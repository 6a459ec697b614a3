use Rattle.mix_loop.proofs.Begun.{may_begin}
use Rattle.mix_loop.proofs.live_laws.turns_may_begin.Goals as goal

pub returns : goal.returns
returns g c = may_begin g.I.Consumer.popped g.M.MixerCalls.stands
