use Rattle.std.proofs.Common.{◌∙◌, ap, arith, refl}
use Rattle.std.specs.List.{concat}
use Rattle.std.proofs.lemmas.List.Folds.{concat-append}
use Rattle.rtt_mix.proofs.views.add_sent_view.Goals as goal

pub returns-clause-adds : goal.returns-clause-adds
returns-clause-adds c = record {
  views = ap concat c.in_ok-add_pieces.ensures ∙ concat-append c.args.seen.now.views.items c.args.pieces.items;
  packets = refl;
  used = refl;
  markers = refl;
}

pub returns-clause-with_it : goal.returns-clause-with_it
returns-clause-with_it c = λ n before. record {
  packets = omega (arith, before.packets, c.requires.few);
  used = omega (arith, before.used, c.requires.few);
  markers = omega (arith, before.markers);
}
