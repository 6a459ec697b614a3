use Rattle.std.proofs.Common.{List, ℕ, [], ap, take, subst, sym, ◌∙◌}
use Rattle.rtt_base.specs.Buffers.{Appends}
use Rattle.rtt_base.proofs.Appending.{appends_both}
use Rattle.wire_spec.specs.Rtp.{rtp_written}
use Rattle.rtp_text.specs.Headers.{spelled}
use Rattle.rtp_text.proofs.Parts.{headed}
use Rattle.rtp_text.proofs.header_writers.write_rtp.Goals as goal
use Rattle.rtp_text.proofs.header_writers.write_rtp.Goals.{then-is_err-2, else-is_err-2}

pub returns : goal.returns
returns g c =
    let written = g.O.OctetBuffer.written in
    let first = sym c.is_err.ensures.value ∙ c.if-is_err.false in
    let value = c.is_err-2.ensures.value in
    subst (λ (xs : List ℕ). Appends g.O.OctetBuffer.greatest (written c.args.out.now) (written c.if-is_err-2.out) xs c.append-written.result) (headed (spelled c.args.head.now) c.args.payload.now)
    (appends_both g.O.OctetBuffer.greatest (written c.args.out.now) (written c.write_header-headed.new.out) (written c.append-written.new.self) (written c.if-is_err-2.out) (rtp_written (spelled c.args.head.now) []) c.args.payload.now c.write_header-headed.result c.append-written.result
    c.write_header-headed.ensures first c.append-written.ensures
    (λ e. elim c.if-is_err-2.branch [ then-is_err-2 w ↦ let t = w.if-is_err-2.true in cc (e, value, t) | else-is_err-2 w ↦ ap written w.out-is ])
    (λ e. elim c.if-is_err-2.branch [
      | then-is_err-2 w ↦ ap written w.out-is ∙ (w.truncate.ensures ∙ ap (λ (n : ℕ). take n (written c.append-written.new.self)) c.len-before.ensures.value)
      | else-is_err-2 w ↦ let f = w.if-is_err-2.false in cc (e, value, f)
    ]))
