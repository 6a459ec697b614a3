use Rattle.mix_loop.specs.LivePorts.{IsGathering}
use Rattle.mix_loop.proofs.live_ports.LivePort.gather.Given as goal

abbrev pub invariant-loop : goal.invariant-loop
invariant-loop g l = IsGathering g.I.Consumer.popped g.I.Consumer.began g.M.MixerCalls.stands g.M.MixerCalls.legs g.M.MixerCalls.turns g.M.MixerCalls.addresses l.takes l.fn.self l.self l.fn.mixer l.mixer
