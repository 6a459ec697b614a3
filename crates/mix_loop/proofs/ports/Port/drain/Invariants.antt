use Rattle.mix_loop.specs.Items.{Gave}
use Rattle.mix_loop.specs.Ports.{PortIsSound, SameSeat, PortHolds, DrainedTo}
use Rattle.mix_loop.proofs.ports.Port.drain.Given as goal

abbrev pub invariant-loop : goal.invariant-loop
invariant-loop g l =
    PortIsSound g.I.Inlet.good l.leg l.self
    × SameSeat l.fn.self l.self
    × ((first : _) (gave : Gave _) → PortHolds g.I.Inlet.stands l.leg first l.fn.self gave → DrainedTo g.I.Inlet.stands l.leg first gave l.self)
