use Rattle.std.proofs.Common.{List, ℕ, ◌∙◌, ap, ◌++◌, [], ◌∷◌}
use Rattle.rtt_mix.proofs.Viewing.{piece_more}
use Rattle.rtt_mix.proofs.pieces.add_octets.Goals as goal

pub returns : goal.returns
returns c = piece_more c.args.pieces.now.items c.push.new.self.items c.args.octets
    (c.in_ok-push.ensures.items ∙ ap (λ (p : List ℕ). c.args.pieces.now.items ++ p ∷ []) c.in_ok-piece.ensures)
