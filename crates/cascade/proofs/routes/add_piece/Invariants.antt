use Rattle.std.proofs.Common.{length}
use Rattle.receiver.specs.Pieces.{left_of}
use Rattle.cascade.proofs.Adding.{AddedSome}
use Rattle.cascade.proofs.routes.add_piece.Given as goal

abbrev pub invariant-loop-text : goal.invariant-loop-text
invariant-loop-text l = AddedSome l.initial.splitter l.ready (left_of l.initial.piece l.packet) l.splitter (left_of l.piece l.packet)

-- each turn takes a text
abbrev pub decreases-loop-text : goal.decreases-loop-text
decreases-loop-text l = length (left_of l.piece l.packet)
