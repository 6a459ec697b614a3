use Rattle.std.proofs.Common.{sym, ◌∙◌}
use Rattle.receiver.specs.Pieces.{left_of}
use Rattle.receiver.proofs.Blockwise.{text_some}
use Rattle.receiver.proofs.PiecesLeft.{next_dropped, next_given, none_given}
use Rattle.receiver.proofs.piece_cursors.next_text.Goals as goal

pub loop-text-preserved : goal.loop-text-preserved
loop-text-preserved c =
    c.loop-text.invariant
    ∙ next_dropped c.args.cut c.loop-text.texts c.args.packet.now c.in-Some.text.now (left_of c.next.new.self c.args.packet.now) c.in-Some.ensures.some (sym c.drops.ensures ∙ c.if-not-drops.false)

pub returns-then-not-drops-clause-some : goal.returns-then-not-drops-clause-some
returns-then-not-drops-clause-some c =
    c.loop-text.invariant
    ∙ next_given c.args.cut c.loop-text.texts c.args.packet.now c.in-Some.text.now (left_of c.next.new.self c.args.packet.now) c.in-Some.ensures.some (sym c.drops.ensures ∙ c.if-not-drops.true)

pub returns-then-not-drops-clause-text : goal.returns-then-not-drops-clause-text
returns-then-not-drops-clause-text c = text_some c.loop-text.texts c.args.packet.now c.in-Some.text.now (left_of c.next.new.self c.args.packet.now) c.in-Some.ensures.some

pub returns-clause-none : goal.returns-clause-none
returns-clause-none c = c.loop-text.invariant ∙ none_given c.args.cut c.loop-text.texts c.args.packet.now c.in_default.ensures.none
