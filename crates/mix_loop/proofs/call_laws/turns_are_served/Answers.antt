use Rattle.mix_loop.proofs.Served.{broken_law, closed_law, done_law}
use Rattle.mix_loop.proofs.call_laws.turns_are_served.Goals as goal

pub returns : goal.returns
returns g c = record { done = done_law g.I.Consumer.popped g.M.MixerCalls.stands; closed = closed_law g.I.Consumer.popped g.M.MixerCalls.stands; broken = broken_law g.I.Consumer.popped g.M.MixerCalls.stands }
