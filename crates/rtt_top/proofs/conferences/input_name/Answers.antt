use Rattle.std.proofs.Common.{◌∙◌, arith}
use Rattle.rtt_top.proofs.Chain.{input_at, input_behind}
use Rattle.rtt_top.proofs.conferences.input_name.Goals as goal

pub returns-then-legs-number : goal.returns-then-legs-number
returns-then-legs-number c = input_behind c.args.file.now c.args.legs.now c.args.input c.if-legs-number.true

pub returns : goal.returns
returns c =
    c.as_str.ensures
    ∙ input_at c.args.file.now c.args.legs.now c.args.input c.index-legs-number.result (omega (arith, c.if-number-eq0.false)) (omega (arith, c.if-legs-number.false)) c.index-legs-number.is
