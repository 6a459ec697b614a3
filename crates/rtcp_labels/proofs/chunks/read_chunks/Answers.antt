use Rattle.std.proofs.Common.{◌∙◌, sym, arith}
use Rattle.std.proofs.lemmas.Result.{err_from_is_err_and}
use Rattle.rtcp_labels.specs.Notes.{notes}
use Rattle.rtcp_labels.proofs.Items.{chunk_refused_of, chunk_more_of, chunks_done}
use Rattle.rtcp_labels.proofs.chunks.read_chunks.Goals as goal

pub returns-in_err-rest : goal.returns-in_err-rest
returns-in_err-rest c =
    let p = err_from_is_err_and c.from_residual.result c.from_residual.ensures.1 in
    let some = c.loop-left-test.true in
    rw (p.1, p.2) (sym c.loop-left.invariant ∙ chunk_refused_of (notes c.loop-left.out.items c.loop-left.many) c.loop-left.left c.loop-left.rest.now c.in_err-rest.field-0.0 (omega (arith, some)) c.in_err-rest.ensures)

pub loop-left-preserved : goal.loop-left-preserved
loop-left-preserved c =
    let some = c.loop-left-test.true in
    chunk_more_of (notes c.loop-left.out.items c.loop-left.many) (notes c.read_chunk.new.out.items c.read_chunk.new.many) c.loop-left.left c.loop-left.rest.now c.in_ok-rest.rest.now (omega (arith, some)) c.in_ok-rest.ensures ∙ c.loop-left.invariant

pub returns : goal.returns
returns c =
    let none = c.loop-left-test.false in
    sym c.loop-left.invariant ∙ chunks_done (notes c.loop-left.out.items c.loop-left.many) c.loop-left.left c.loop-left.rest.now (omega (arith, none))
