use Rattle.std.proofs.Common.{◌==◌, ◌&&◌, not, Bool, length, sym, ap, ◌∙◌}
use Rattle.std.proofs.lemmas.Bool.{ne_eqb}
use Rattle.unaware_view.specs.Choices.{is_set}
use Rattle.unaware_view.proofs.Firsts.{any_here}
use Rattle.unaware_view.proofs.choices.any_other.Goals as goal

pub returns-then-flags-i : goal.returns-then-flags-i
returns-then-flags-i c =
    let i = c.loop-i.i in
    let flags = c.args.flags.now in
    let here = ap (λ (b : Bool). not b && is_set flags i) (ne_eqb i c.args.own c.if-i-own.true) ∙ c.if-flags-i.true in
    sym (any_here (λ s. not (s == c.args.own) && is_set flags s) (length flags) i c.loop-i-test.true here)
