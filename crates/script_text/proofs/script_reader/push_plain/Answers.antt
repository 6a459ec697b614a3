use Rattle.std.proofs.Common.{Ok, ap, sym, ◌∙◌, arith}
use Rattle.script_text.proofs.LineHeads.{plain_long, plain_typed, with_text}
use Rattle.script_text.proofs.script_reader.push_plain.Goals as goal

pub returns-then-head-gt-LONGEST_TEXT-clause-err : goal.returns-then-head-gt-LONGEST_TEXT-clause-err
returns-then-head-gt-LONGEST_TEXT-clause-err c =
    plain_long c.args.line c.args.head.octets.now c.refused.result c.requires (omega (arith, c.if-head-gt-LONGEST_TEXT.true)) c.refused.ensures

pub returns-clause-ok : goal.returns-clause-ok
returns-clause-ok c =
    ap (λ r. with_text c.args.script.now c.args.line c.args.head.at r) (plain_typed c.args.head.octets.now c.requires (omega (arith, c.if-head-gt-LONGEST_TEXT.false)))
    ∙ ap Ok (sym c.in_ok-push.ensures.ok)
