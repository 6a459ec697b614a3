use Rattle.std.proofs.Common.{ap, ◌∙◌}
use Rattle.reorder_buffer.specs.States.{State, settled_first}
use Rattle.reorder_buffer.proofs.Apart.{settle_state, settle_sound}
use Rattle.reorder_buffer.proofs.holds.Hold.settle.Goals as goal

pub invariant_of-self : goal.invariant_of-self
invariant_of-self c = rw c.push.ensures (settle_sound c.self.inside c.take_first-first.result c.take_first-first.new.self c.args.latest c.take_first-first.ensures c.self.invariant)

pub returns : goal.returns
returns c = rw c.push.ensures (settle_state c.self.inside c.take_first-first.result c.take_first-first.new.self c.args.latest c.take_first-first.ensures ∙ ap (λ (s : State). settled_first s c.args.latest) c.self.view_is)
