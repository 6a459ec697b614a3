use Rattle.std.specs.Prelude.{◌==◌}
use Rattle.std.proofs.lemmas.Bool.{and_right}
use Rattle.std.proofs.Common.{not, false, sym, refl, arith}
use Rattle.terminal_scheduler.proofs.unaware.UnawareScheduler.new.Goals as goal

pub returns-clause-stands : goal.returns-clause-stands
returns-clause-stands c = λ s set legs spacing generations room again. record {
  setup = set;
  own = c.in_ok-composer.ensures.own;
  leg = let own = c.requires.own in omega (arith, own, legs);
  spacing = sym spacing;
  composer = c.in_ok-composer.ensures.stands s legs room again;
  generations = sym generations;
  sent = tt;
  left = refl;
  free = refl;
  by_mixer = tt;
  rests = λ e i l. and_right (not (i == c.args.own)) false refl;
}
