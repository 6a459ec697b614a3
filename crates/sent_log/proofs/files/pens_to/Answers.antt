use Rattle.std.proofs.Common.{◌≡◌, Some, List, [], ◌∷◌, length, ap, subst, arith}
use Rattle.std.specs.Prelude.{slice_get}
use Rattle.std.proofs.lemmas.List.{length-append}
use Rattle.sent_log.specs.declared.pens.Pen.{Pen}
use Rattle.sent_log.proofs.Recorded.{one_pen_more}
use Rattle.sent_log.proofs.files.pens_to.Goals as goal

pub loop-terminal-preserved : goal.loop-terminal-preserved
loop-terminal-preserved c =
    let pens = c.loop-terminal.pens.items in
    let new = c.in_ok-pen.pen in
    let before = c.loop-terminal.invariant in
    let many = ap (λ (xs : List Pen). length xs) c.in_ok-push.ensures.items in
    record {
      each = omega (arith, many, length-append pens (new ∷ []), before.each);
      stand = λ j x o at there. one_pen_more c.args.log.now pens c.loop-terminal.terminal new before.each before.stand
          (λ y here. record { each = (c.in_ok-pen.ensures y here).each })
          j x o at (subst (λ (xs : List Pen). slice_get xs j ≡ Some o) c.in_ok-push.ensures.items there);
    }
