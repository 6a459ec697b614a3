use Rattle.std.proofs.Common.{◌≡◌, length}
use Rattle.receiver.specs.Cuts.{texts_given}
use Rattle.receiver.specs.Pieces.{left_of}
use Rattle.receiver.proofs.piece_cursors.next_text.Given as goal

abbrev pub invariant-loop-text : goal.invariant-loop-text
invariant-loop-text l = texts_given l.cut (left_of l.initial.texts l.packet) ≡ texts_given l.cut (left_of l.texts l.packet)

-- each turn takes a text
abbrev pub decreases-loop-text : goal.decreases-loop-text
decreases-loop-text l = length (left_of l.texts l.packet)
