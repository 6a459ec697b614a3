use Rattle.std.proofs.Common.{◌∙◌, length-drop, arith}
use Rattle.std.proofs.lemmas.List.{take_rest}
use Rattle.rtcp_labels.specs.Notes.{notes}
use Rattle.rtcp_labels.proofs.Items.{bye_more}
use Rattle.rtcp_labels.proofs.chunks.note_byes.Goals as goal

pub loop-left-preserved : goal.loop-left-preserved
loop-left-preserved c =
    let i = c.loop-left.invariant in
    let rest = c.loop-left.rest.now in
    let some = c.loop-left-test.true in
    record {
      exact = rw (take_rest rest 4) (bye_more (notes c.loop-left.out.items c.loop-left.many) (notes c.note.new.out.items c.note.new.many) c.loop-left.left c.from_be_bytes-ssrc.result rest (omega (arith, some)) c.from_be_bytes-ssrc.ensures c.note.ensures ∙ i.exact);
      there = rw (take_rest rest 4) (omega (arith, i.there, some, length-drop 4 rest));
    }
