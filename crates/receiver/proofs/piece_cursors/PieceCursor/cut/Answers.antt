use Rattle.std.proofs.Common.{◌≡◌, ◌≤◌, ℕ, List, ◌∷◌, length, ap, sym, ◌∙◌, arith}
use Rattle.receiver.specs.Cuts.{most_of}
use Rattle.receiver.specs.PiecesLeft.{rest_of}
use Rattle.receiver.proofs.PiecesLeft.{one_piece}
use Rattle.receiver.proofs.piece_cursors.PieceCursor.cut.Goals as goal

pub returns-then-text-most-clause-pieces : goal.returns-then-text-most-clause-pieces
returns-then-text-most-clause-pieces c =
    let short : length c.args.text.now ≤ most_of c.args.cut = omega (arith, c.if-text-most.true, c.most.ensures.value) in
    one_piece c.args.cut c.args.self.now c.args.text.now c.requires.text short c.requires.none
    ∙ ap (λ (t : List ℕ). t ∷ rest_of c.args.cut c.args.self.now) (sym c.write_over.ensures)
