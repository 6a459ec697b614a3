use Rattle.std.proofs.Common.{sym}
use Rattle.std.proofs.lemmas.Result.{err_from_is_err_and}
use Rattle.rtcp_labels.proofs.Packets.{first_err, first_ok, next_err, next_ok}
use Rattle.rtcp_labels.proofs.readers.read_packets.Goals as goal

pub returns-in_err-rest : goal.returns-in_err-rest
returns-in_err-rest c =
    let p = err_from_is_err_and c.from_residual.result c.from_residual.ensures.1 in
    rw (p.1, p.2) (first_err c.args.out.now.items c.args.bytes.now c.in_err-rest.field-0.0 c.requires c.in_err-rest.ensures.exact)

pub loop-rest-init : goal.loop-rest-init
loop-rest-init c = (first_ok c.args.out.now.items c.args.bytes.now _ c.requires c.in_ok-rest.ensures.exact c.in_ok-rest.ensures.shorter, c.in_ok-rest.ensures.few)

pub returns-in_err-rest-2 : goal.returns-in_err-rest-2
returns-in_err-rest-2 c =
    let p = err_from_is_err_and c.from_residual-in_err-rest-2.result c.from_residual-in_err-rest-2.ensures.1 in
    rw (p.1, p.2) (next_err c.loop-rest.out.items c.loop-rest.rest.now c.args.bytes.now c.in_err-rest-2.field-0.0 c.loop-rest.invariant.0 (sym c.loop-rest-test.ensures) c.in_err-rest-2.ensures.exact)

pub loop-rest-preserved : goal.loop-rest-preserved
loop-rest-preserved c =
    (next_ok c.loop-rest.out.items c.loop-rest.rest.now c.args.bytes.now _ c.loop-rest.invariant.0 (sym c.loop-rest-test.ensures) c.in_ok-rest-2.ensures.exact c.in_ok-rest-2.ensures.shorter, c.in_ok-rest-2.ensures.few)
