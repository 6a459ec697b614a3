use Rattle.std.proofs.Common.{ℕ, List}
use Rattle.mixer_spec.specs.Setups.{Setup}
use Rattle.mix_loop.specs.Turns.{Known, AreSound, AllKnown, DrainsTo}
use Rattle.mix_loop.proofs.turns.drain_all.Given as goal

abbrev pub invariant-loop-leg : goal.invariant-loop-leg
invariant-loop-leg g l =
    AreSound g.I.Inlet.good l.ports
    × ((s : Setup) (firsts : List _) (kn : ℕ → Known _) → AllKnown g.I.Inlet.stands s firsts l.fn.ports kn → DrainsTo g.I.Inlet.stands s firsts l.leg kn l.ports)
