use Rattle.reorder_buffer.proofs.Apart.{given_sound}
use Rattle.reorder_buffer.proofs.holds.Hold.next.Goals as goal

pub invariant_of-self : goal.invariant_of-self
invariant_of-self c = rw c.turn_to.ensures (given_sound c.self.inside c.take_first-first.result c.take_first-first.new.self c.take_first-first.ensures c.self.invariant)
