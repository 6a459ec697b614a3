use Rattle.std.proofs.Common.{◌≤◌, length, arith}
use Rattle.receiver.specs.Cuts.{most_of}
use Rattle.receiver.proofs.PiecesLeft.{put_front, put_whole}
use Rattle.receiver.proofs.piece_cursors.put_piece.Goals as goal

pub returns-then-text-most-clause-pieces : goal.returns-then-text-most-clause-pieces
returns-then-text-most-clause-pieces c =
    let short : length c.args.text.now ≤ most_of c.args.cut = omega (arith, c.if-text-most.true, c.most-most.ensures.value) in
    put_whole c.args.cut c.args.text.now c.write_over.new.place c.requires.some short c.write_over.ensures

pub returns-clause-pieces : goal.returns-clause-pieces
returns-clause-pieces c =
    put_front c.args.cut c.args.text.now c.write_over-2.new.place c.most-most.result c.cut_at-end.result c.most-most.ensures.value (omega (arith, c.if-text-most.false)) c.cut_at-end.ensures.value c.cut_at-end.ensures.within c.write_over-2.ensures
