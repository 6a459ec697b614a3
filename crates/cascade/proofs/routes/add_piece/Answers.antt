use Rattle.std.proofs.Common.{arith}
use Rattle.std.proofs.lemmas.Bool.Decides.{nat_tests}
use Rattle.receiver.specs.Pieces.{left_of}
use Rattle.cascade.proofs.Adding.{some_none, some_more, some_all}
use Rattle.cascade.proofs.routes.add_piece.Goals as goal

pub loop-text-init : goal.loop-text-init
loop-text-init c = some_none c.args.splitter.now c.args.ready (left_of c.args.piece c.args.packet.now)

pub add_lively-requires-clause-few : goal.add_lively-requires-clause-few
add_lively-requires-clause-few c =
    let text = c.in-Some.ensures.short in
    let primary = c.requires.short in
    grind (arith, nat_tests)

pub loop-text-preserved : goal.loop-text-preserved
loop-text-preserved c =
    some_more c.args.splitter.now c.loop-text.splitter c.add_lively.new.splitter c.args.ready (left_of c.args.piece c.args.packet.now) (left_of c.loop-text.piece c.args.packet.now) (left_of c.next.new.self c.args.packet.now) c.in-Some.text.now
    c.loop-text.invariant c.in-Some.ensures.some c.in_ok-add_lively.ensures.adds c.add_lively.ensures.payload_types

pub returns-clause-adds : goal.returns-clause-adds
returns-clause-adds c =
    some_all c.args.splitter.now c.loop-text.splitter c.args.ready (left_of c.args.piece c.args.packet.now) (left_of c.loop-text.piece c.args.packet.now) c.loop-text.invariant c.in_default.ensures.none
