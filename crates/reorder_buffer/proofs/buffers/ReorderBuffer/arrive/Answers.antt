use Rattle.reorder_buffer.proofs.buffers.ReorderBuffer.arrive.Goals as goal

pub returns-clause-packets : goal.returns-clause-packets
returns-clause-packets c = rw (← c.self.view_is) c.arrive.ensures.packets
