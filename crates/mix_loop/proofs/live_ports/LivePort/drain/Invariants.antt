use Rattle.std.proofs.Common.{◌≡◌, false}
use Rattle.mix_loop.specs.LivePorts.{Grew}
use Rattle.mix_loop.proofs.live_ports.LivePort.drain.Given as goal

abbrev pub invariant-loop : goal.invariant-loop
invariant-loop g l = (l.self.full ≡ false) × (l.self.leg ≡ l.fn.self.leg) × Grew g.I.Consumer.popped g.I.Consumer.began l.fn.self l.self
