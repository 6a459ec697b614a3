use Rattle.std.proofs.Common.{List, ℕ, [], ap, take, subst, sym, ◌++◌, ◌∙◌}
use Rattle.rtt_base.specs.Buffers.{Appends}
use Rattle.rtt_base.proofs.Appending.{appends_both, appends_refused}
use Rattle.wire_spec.specs.Rtp.{Head, rtp_written}
use Rattle.wire_spec.specs.SentPackets.{payload_sent, head_of}
use Rattle.rtp_text.specs.Headers.{spelled}
use Rattle.rtp_text.proofs.Parts.{headed}
use Rattle.rtp_text.specs.Writing.{packet_with}
use Rattle.rtp_text.proofs.block_writers.write_text.Goals as goal
use Rattle.rtp_text.proofs.block_writers.write_text.Goals.{then-is_err-2, else-is_err-2}

pub returns-then-is_err : goal.returns-then-is_err
returns-then-is_err g c =
    let written = g.O.OctetBuffer.written in
    let failed = sym c.is_err.ensures.value ∙ c.if-is_err.true in
    let payload = payload_sent c.args.payload_types (g.B.OlderBlocks.blocks c.args.older.now c.args.head.now.timestamp) c.args.text.now in
    let h = spelled c.rtp_head-rtp.result in
    subst (λ (xs : List ℕ). Appends g.O.OctetBuffer.greatest (written c.args.out.now) (written c.write_header-headed.new.out) xs c.write_header-headed.result)
    (headed h payload ∙ ap (λ (k : Head). rtp_written k payload) (c.rtp_head-rtp.ensures.value c.args.text.now))
    (appends_refused g.O.OctetBuffer.greatest (written c.args.out.now) (written c.write_header-headed.new.out) (rtp_written h []) payload c.write_header-headed.result c.write_header-headed.result c.write_header-headed.ensures failed failed)

pub returns : goal.returns
returns g c =
    let written = g.O.OctetBuffer.written in
    let value = c.is_err-2.ensures.value in
    let older = g.B.OlderBlocks.blocks c.args.older.now c.args.head.now.timestamp in
    let payload = payload_sent c.args.payload_types older c.args.text.now in
    let h = spelled c.rtp_head-rtp.result in
    let both = appends_both g.O.OctetBuffer.greatest (written c.args.out.now) (written c.write_header-headed.new.out) (written c.write_payload-written.new.out) (written c.if-is_err-2.out) (rtp_written h []) payload c.write_header-headed.result c.write_payload-written.result
    c.write_header-headed.ensures (sym c.is_err.ensures.value ∙ c.if-is_err.false) c.write_payload-written.ensures
    (λ e. elim c.if-is_err-2.branch [ then-is_err-2 w ↦ let t = w.if-is_err-2.true in cc (e, value, t) | else-is_err-2 w ↦ ap written w.out-is ])
    (λ e. elim c.if-is_err-2.branch [
      | then-is_err-2 w ↦ ap written w.out-is ∙ (w.truncate.ensures ∙ ap (λ (n : ℕ). take n (written c.write_payload-written.new.out)) c.len-before.ensures.value)
      | else-is_err-2 w ↦ let f = w.if-is_err-2.false in cc (e, value, f)
    ]) in
    subst (λ (xs : List ℕ). Appends g.O.OctetBuffer.greatest (written c.args.out.now) (written c.if-is_err-2.out) xs c.write_payload-written.result)
    (headed h payload ∙ ap (λ (k : Head). rtp_written k payload) (c.rtp_head-rtp.ensures.value c.args.text.now)) both
