use Rattle.reorder_buffer.proofs.Giving.{order_is, give_some, give_none}
use Rattle.reorder_buffer.proofs.buffers.ReorderBuffer.next.Goals as goal

pub returns-clause-some : goal.returns-clause-some
returns-clause-some c = rw (← c.self.view_is) (give_some c.next.result c.self.inside.hold c.next.new.self c.next.ensures.some)

pub returns-clause-front : goal.returns-clause-front
returns-clause-front c story k = (c.next.new.self.settled, (order_is c.next.new.self story k).ready_is)

pub returns-clause-order : goal.returns-clause-order
returns-clause-order c story k = (_, (order_is c.next.new.self story k).dues_are)

pub returns-clause-none : goal.returns-clause-none
returns-clause-none c = rw (← c.self.view_is) (give_none c.next.result c.self.inside.hold c.next.new.self c.next.ensures.none)
