use Rattle.std.proofs.Common.{◌++◌, ap, ◌∙◌, lit<}
use Rattle.std.proofs.lemmas.Iterator.Consumers.{YieldsList-end}
use Rattle.std.proofs.lemmas.Iterator.Splits.{YieldsList-from_str_split}
use Rattle.view_spec.specs.Views.{printed_lines}
use Rattle.t140_text.proofs.views.append_lines.Goals as goal

pub returns-clause-ok : goal.returns-clause-ok
returns-clause-ok c =
    let lines = YieldsList-from_str_split 0x0A c.joined.result.now (lit< tt) (cc) (cc) (cc) in
    let end = YieldsList-end lines c.loop-line.yielded _ c.loop-line.yielded_by _ _ c.in-None.is c.next.ensures.steps in
    c.loop-line.invariant
    ∙ ap (λ ls. c.args.out.now ++ printed_lines (c.args.name.now ++ c.args.sign.now) ls) (end.0 ∙ c.joined.ensures.lines)
