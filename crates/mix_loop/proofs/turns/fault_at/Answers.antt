use Rattle.std.proofs.Common.{ap, sym, ◌∙◌}
use Rattle.mix_loop.specs.Items.{fault_in}
use Rattle.mix_loop.proofs.Finding.{ended_get}
use Rattle.mix_loop.proofs.turns.fault_at.Goals as goal
use Rattle.stream_spec.proofs.Plain.{get_read}

pub returns : goal.returns
returns g c = c.fault.ensures ∙ ap fault_in (sym (ended_get c.args.ports.now c.args.leg c.index-ports-leg.result (get_read c.args.ports.now c.args.leg c.index-ports-leg.result c.requires c.index-ports-leg.is)))
