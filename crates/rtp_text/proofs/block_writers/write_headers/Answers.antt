use Rattle.std.proofs.Common.{List, ℕ, [], ◌∷◌, take, ap, subst, sym, ◌∙◌}
use Rattle.rtt_base.specs.Buffers.{Appends}
use Rattle.wire_spec.specs.Red.{red_header}
use Rattle.rtp_text.specs.Writing.{seen}
use Rattle.rtp_text.proofs.Pieces.{one_more, one_refused}
use Rattle.rtp_text.proofs.block_writers.write_headers.Goals as goal

pub returns-then-is_err : goal.returns-then-is_err
returns-then-is_err g c =
    let written = g.O.OctetBuffer.written in
    one_refused g.O.OctetBuffer.greatest (written c.args.out.now) (written c.loop-place.out) (written c.append-appended.new.self) (written c.truncate.new.self) (c.args.t140 ∷ []) (red_header c.args.t140) (g.B.OlderBlocks.blocks c.args.older.now c.args.timestamp) c.loop-place.place (seen c.block.result) c.append-appended.result
    c.loop-place.invariant c.block.ensures.block
    (subst (λ (xs : List ℕ). Appends g.O.OctetBuffer.greatest (written c.loop-place.out) (written c.append-appended.new.self) xs c.append-appended.result) c.header_octets-header.ensures c.append-appended.ensures)
    (sym c.is_err.ensures.value ∙ c.if-is_err.true)
    (c.truncate.ensures ∙ ap (λ (n : ℕ). take n (written c.append-appended.new.self)) c.len-before.ensures.value)

pub loop-place-preserved : goal.loop-place-preserved
loop-place-preserved g c =
    let written = g.O.OctetBuffer.written in
    one_more g.O.OctetBuffer.greatest (written c.args.out.now) (written c.loop-place.out) (written c.append-appended.new.self) (red_header c.args.t140) (g.B.OlderBlocks.blocks c.args.older.now c.args.timestamp) c.loop-place.place (seen c.block.result) c.append-appended.result
    c.loop-place.invariant c.block.ensures.block
    (subst (λ (xs : List ℕ). Appends g.O.OctetBuffer.greatest (written c.loop-place.out) (written c.append-appended.new.self) xs c.append-appended.result) c.header_octets-header.ensures c.append-appended.ensures)
    (sym c.is_err.ensures.value ∙ c.if-is_err.false)
