use Rattle.std.proofs.Common.{List, ℕ, take, ap, sym, ◌∙◌}
use Rattle.rtt_base.specs.declared.blocks.TextBlock.{TextBlock}
use Rattle.rtp_text.specs.Writing.{seen}
use Rattle.rtp_text.proofs.Pieces.{one_more, one_refused}
use Rattle.rtp_text.proofs.block_writers.write_texts.Goals as goal

pub returns-then-is_err : goal.returns-then-is_err
returns-then-is_err g c =
    let written = g.O.OctetBuffer.written in
    one_refused g.O.OctetBuffer.greatest (written c.args.out.now) (written c.loop-place.out) (written c.append-appended.new.self) (written c.truncate.new.self) c.args.text.now (λ (b : TextBlock). b.text) (g.B.OlderBlocks.blocks c.args.older.now c.args.timestamp) c.loop-place.place (seen c.block-block.result) c.append-appended.result
    c.loop-place.invariant c.block-block.ensures.block c.append-appended.ensures
    (sym c.is_err.ensures.value ∙ c.if-is_err.true)
    (c.truncate.ensures ∙ ap (λ (n : ℕ). take n (written c.append-appended.new.self)) c.len-before.ensures.value)

pub loop-place-preserved : goal.loop-place-preserved
loop-place-preserved g c =
    let written = g.O.OctetBuffer.written in
    one_more g.O.OctetBuffer.greatest (written c.args.out.now) (written c.loop-place.out) (written c.append-appended.new.self) (λ (b : TextBlock). b.text) (g.B.OlderBlocks.blocks c.args.older.now c.args.timestamp) c.loop-place.place (seen c.block-block.result) c.append-appended.result
    c.loop-place.invariant c.block-block.ensures.block c.append-appended.ensures
    (sym c.is_err.ensures.value ∙ c.if-is_err.false)
