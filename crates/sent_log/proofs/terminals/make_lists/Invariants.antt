use Rattle.std.proofs.Common.{◌-◌, length}
use Rattle.sent_log.specs.Lists.{EachGrows}
use Rattle.sent_log.proofs.terminals.make_lists.Given as goal

abbrev pub invariant-loop-alloc : goal.invariant-loop-alloc
invariant-loop-alloc l = EachGrows l.initial.texts.items l.texts.items

abbrev pub decreases-loop-alloc : goal.decreases-loop-alloc
decreases-loop-alloc l = l.count - length l.texts.items
