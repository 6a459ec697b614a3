use Rattle.std.proofs.Common.{sym, ◌∙◌, subst}
use Rattle.receiver.specs.Pieces.{left_of}
use Rattle.cascade.specs.declared.splitters.SourceRecording.{SourceRecording}
use Rattle.cascade.specs.Dividing.{AddsTexts}
use Rattle.cascade.proofs.Adding.{divides_none, divides_one}
use Rattle.cascade.proofs.routes.divide.Goals as goal
use Rattle.wire_spec.proofs.Plain.{on_ok}

pub returns-in_default-clause-divides : goal.returns-in_default-clause-divides
returns-in_default-clause-divides c =
    divides_none c.args.receiver.now c.take_piece-piece.new.self c.args.splitters.now c.args.due c.args.packet.now
    (λ sources us s. c.take_piece-piece.ensures.stands sources us c.args.due.ready s)
    (sym c.place_of.ensures ∙ c.in_default.is)

pub returns-clause-divides : goal.returns-clause-divides
returns-clause-divides c = on_ok c.add_piece.result c.add_piece.ensures.adds (λ a.
    divides_one c.args.receiver.now c.take_piece-piece.new.self c.args.splitters.now c.args.due c.args.packet.now c.take_piece-piece.result c.in-Some.place c.index-splitters-place.result c.add_piece.new.splitter
    (λ sources us s. c.take_piece-piece.ensures.stands sources us c.args.due.ready s)
    c.take_piece-piece.ensures.each
    (sym c.place_of.ensures ∙ c.in-Some.is)
    c.index-splitters-place.is
    (subst (λ (x : SourceRecording). AddsTexts x c.add_piece.new.splitter c.args.due.ready (left_of c.take_piece-piece.result c.args.packet.now)) (sym c.index-splitters-place.is) a))
