use Rattle.std.proofs.Common.{List, [], ◌∷◌, ◌++◌, length, refl, ap, sym, ◌∙◌, append_assoc, arith, ℕ}
use Rattle.std.specs.Vec.Iter.{into_iter_items}
use Rattle.std.proofs.lemmas.List.{append-nil}
use Rattle.rtt_mix.proofs.pieces.add_pieces.Goals as goal

pub loop-piece-init : goal.loop-piece-init
loop-piece-init c =
    let given = c.into_iter-piece-iterator.ensures.into_iter_gives in
    record {
      all = refl;
      left = omega (arith, given.1, ap (λ (xs : List (List ℕ)). length xs) given.0, c.args.pieces.ok.0);
      added = sym (append-nil c.args.all.now.items);
    }

pub loop-piece-preserved : goal.loop-piece-preserved
loop-piece-preserved c =
    let i = c.loop-piece.invariant in
    let yielded = c.loop-piece.yielded in
    let piece = c.in-Some.piece in
    let rest = into_iter_items c.next.new.self in
    let steps = c.in-Some.ensures.steps.0 in
    record {
      all = append_assoc yielded (piece ∷ []) rest ∙ (ap (λ (xs : List (List ℕ)). yielded ++ xs) (sym steps) ∙ i.all);
      left = omega (arith, i.left, c.in-Some.ensures.steps.1, ap (λ (xs : List (List ℕ)). length xs) steps);
      added = c.in_ok-push.ensures.items ∙ (ap (λ (xs : List (List ℕ)). xs ++ piece ∷ []) i.added ∙ append_assoc c.args.all.now.items yielded (piece ∷ []));
    }
