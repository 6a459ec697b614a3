use Rattle.std.proofs.Common.{List, ℕ, refl, ap, ◌∙◌}
use Rattle.std.specs.List.{concat}
use Rattle.std.proofs.lemmas.List.Folds.{concat-append}
use Rattle.rtt_mix.proofs.parts.add_part.Goals as goal

pub returns-clause-adds : goal.returns-clause-adds
returns-clause-adds c = record {
  views = ap (λ (pieces : List (List ℕ)). concat pieces) c.in_ok-add_pieces.ensures ∙ concat-append c.args.all.now.views.items c.args.part.views.items;
  packets = refl;
  used = refl;
  markers = refl;
}
