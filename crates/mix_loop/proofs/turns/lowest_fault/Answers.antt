use Rattle.std.proofs.Common.{sym, ◌∙◌}
use Rattle.mix_loop.proofs.Finding.{lowest_none, lowest_more}
use Rattle.mix_loop.proofs.turns.lowest_fault.Goals as goal

pub loop-leg-init : goal.loop-leg-init
loop-leg-init g c = lowest_none c.args.ports.now

pub loop-leg-preserved : goal.loop-leg-preserved
loop-leg-preserved g c = lowest_more c.args.ports.now c.loop-leg.leg c.loop-leg.invariant (sym c.fault_at.ensures ∙ c.in_default.is)
