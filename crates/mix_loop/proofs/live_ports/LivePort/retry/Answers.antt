use Rattle.mix_loop.proofs.Advancing.{hand_goes, hand_grew}
use Rattle.mix_loop.proofs.live_ports.LivePort.retry.Goals as goal

pub returns-then-self-clause-retries : goal.returns-then-self-clause-retries
returns-then-self-clause-retries g c = let p = c.args.self.now in
    hand_goes g.I.Consumer.popped g.M.MixerCalls.stands p c.offer.new.self c.args.mixer.now c.offer.new.mixer c.offer.result c.if-self.true (p.own c.if-self.true) c.offer.ensures.only c.offer.ensures.full c.offer.ensures.offered

pub returns-then-self-clause-grew : goal.returns-then-self-clause-grew
returns-then-self-clause-grew g c = hand_grew g.I.Consumer.popped g.I.Consumer.began c.args.self.now c.offer.new.self c.offer.ensures.only
