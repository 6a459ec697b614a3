use Rattle.mix_loop.proofs.Serving.{serving}
use Rattle.mix_loop.proofs.call_laws.serving_is_live.Goals as goal

pub returns : goal.returns
returns g c = serving g.I.Consumer.popped g.M.MixerCalls.stands
