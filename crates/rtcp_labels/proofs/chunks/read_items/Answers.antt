use Rattle.std.proofs.Common.{◌∙◌, ◌+◌, length, length-drop, sym, arith}
use Rattle.std.proofs.lemmas.List.{take_rest}
use Rattle.std.proofs.lemmas.Result.{err_from_is_err_and}
use Rattle.rtcp_labels.specs.Notes.{notes}
use Rattle.rtcp_labels.specs.Views.{item_view}
use Rattle.rtcp_labels.proofs.Items.{item_refused, item_step, item_last}
use Rattle.rtcp_labels.proofs.chunks.read_items.Goals as goal

pub returns-in_err-item-clause-exact : goal.returns-in_err-item-clause-exact
returns-in_err-item-clause-exact c =
    let p = err_from_is_err_and c.from_residual.result c.from_residual.ensures.1 in
    rw (p.1, p.2) (sym c.loop-item.invariant.exact ∙ item_refused (notes c.loop-item.out.items c.loop-item.many) c.args.ssrc c.loop-item.rest.now c.in_err-item.field-0.0 c.in_err-item.ensures.exact)

pub loop-item-preserved : goal.loop-item-preserved
loop-item-preserved c =
    let i = c.loop-item.invariant in
    let rest = c.loop-item.rest.now in
    let item = c.in-Some.item in
    let len = length item.text.now in
    let found = rw c.in-Some.is at c.in_ok-item.ensures in
    record {
      exact = rw (take_rest rest (2 + len)) (item_step (notes c.loop-item.out.items c.loop-item.many) (notes c.note_item.new.out.items c.note_item.new.many) c.args.ssrc len rest (item_view item) found.exact found.fits.size c.note_item.ensures ∙ i.exact);
      shorter = rw (take_rest rest (2 + len)) (omega (arith, i.shorter, length-drop (2 + len) rest));
    }

pub returns-clause-exact : goal.returns-clause-exact
returns-clause-exact c =
    let rest = c.loop-item.rest.now in
    let found = rw c.in_default.is at c.in_ok-item.ensures in
    rw (take_rest rest 1) (sym c.loop-item.invariant.exact ∙ item_last (notes c.loop-item.out.items c.loop-item.many) c.args.ssrc rest found.exact)
