use Rattle.std.proofs.Common.{sym}
use Rattle.std.specs.Str.Lines.{lines}
use Rattle.script_text.proofs.LineHeads.{known_first, plain_behind}
use Rattle.script_text.proofs.ScriptLoop.{script_more, script_over, head_refused, text_refused}
use Rattle.script_text.proofs.script_reader.read_script.Goals as goal

pub read_head-requires : goal.read_head-requires
read_head-requires c = known_first c.known_of-known.result (lines c.loop-line.rest.now) (lines c.in-Some.after.now) c.in-Some.line.now c.in-Some.ensures.lines c.loop-line.invariant.are_known

pub push_typed-requires : goal.push_typed-requires
push_typed-requires c = λ t. plain_behind c.loop-line.latest c.in-Ok.head.at c.in-Some.line.now c.in-Ok.head.octets.now (sym c.in-Ok.ensures.said)
    (let k = known_first c.known_of-known.result (lines c.loop-line.rest.now) (lines c.in-Some.after.now) c.in-Some.line.now c.in-Some.ensures.lines c.loop-line.invariant.are_known in k.plain t)

pub returns-in-Err-clause-refused : goal.returns-in-Err-clause-refused
returns-in-Err-clause-refused c =
    head_refused c.args.bytes.now c.loop-line.rest.now c.in-Some.line.now c.in-Some.after.now c.loop-line.script c.loop-line.latest c.loop-line.number c.known_of-known.result c.in-Err.kind c.refused-in-Err.result
    c.in-Some.ensures.lines (sym c.if-says_nothing.ensures) (sym c.in-Err.ensures.said) c.refused-in-Err.ensures c.loop-line.invariant

pub returns-in-Err-push_typed-clause-refused : goal.returns-in-Err-push_typed-clause-refused
returns-in-Err-push_typed-clause-refused c =
    text_refused c.args.bytes.now c.loop-line.rest.now c.in-Some.line.now c.in-Some.after.now c.loop-line.script c.loop-line.latest c.loop-line.number c.in-Ok.head.at c.in-Ok.head.octets.now c.known_of-known.result c.in-Err-push_typed.fault
    c.in-Some.ensures.lines (sym c.if-says_nothing.ensures) (sym c.in-Ok.ensures.said) c.in-Err-push_typed.ensures.err c.loop-line.invariant

pub loop-line-preserved : goal.loop-line-preserved
loop-line-preserved c =
    script_more c.args.bytes.now c.loop-line.rest.now c.in-Some.line.now c.in-Some.after.now c.loop-line.script c.push_typed.new.script c.in-Ok.head.at c.in-Ok.head.octets.now c.loop-line.latest c.loop-line.number c.known_of-known.result
    c.in-Some.ensures.lines c.in-Some.ensures.shorter (sym c.if-says_nothing.ensures) (sym c.in-Ok.ensures.said) c.in-Ok.ensures.in_order c.in-Ok-push_typed.ensures.ok c.loop-line.invariant

pub loop-line-preserved-then-says_nothing : goal.loop-line-preserved-then-says_nothing
loop-line-preserved-then-says_nothing c =
    script_over c.args.bytes.now c.loop-line.rest.now c.in-Some.line.now c.in-Some.after.now c.loop-line.script c.loop-line.latest c.loop-line.number c.known_of-known.result
    c.in-Some.ensures.lines c.in-Some.ensures.shorter (sym c.if-says_nothing.ensures) c.loop-line.invariant
