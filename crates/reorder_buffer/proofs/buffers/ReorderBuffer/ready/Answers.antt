use Rattle.std.proofs.Common.{ap, ◌∙◌}
use Rattle.reorder_buffer.specs.States.{has_ready}
use Rattle.reorder_buffer.proofs.Giving.{ready_exact}
use Rattle.reorder_buffer.proofs.buffers.ReorderBuffer.ready.Goals as goal

pub returns-clause-exact : goal.returns-clause-exact
returns-clause-exact c story k = c.has_ready.ensures ∙ (ap has_ready c.self.view_is ∙ ready_exact c.args.self.now story k)
