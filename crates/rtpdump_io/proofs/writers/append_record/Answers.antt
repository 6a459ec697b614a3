use Rattle.std.proofs.Common.{List, ℕ, length, ap, take, subst, sym, ◌∙◌}
use Rattle.rtt_base.specs.Buffers.{Appends}
use Rattle.rtt_base.proofs.Appending.{appends_both, appends_refused}
use Rattle.rtpdump_io.proofs.Written.{head_written, head_then_packet}
use Rattle.rtpdump_io.proofs.writers.append_record.Goals as goal
use Rattle.rtpdump_io.proofs.writers.append_record.Goals.{then-is_err-2, else-is_err-2}

pub returns-then-is_err : goal.returns-then-is_err
returns-then-is_err g c =
    let written = g.O.OctetBuffer.written in
    let packet = c.args.packet.now in
    let failed = sym c.is_err.ensures.value ∙ c.if-is_err.true in
    let headed = subst (λ (xs : List ℕ). Appends g.O.OctetBuffer.greatest (written c.args.out.now) (written c.append-headed.new.self) xs c.append-headed.result) c.head_octets.ensures c.append-headed.ensures in
    subst (λ (xs : List ℕ). Appends g.O.OctetBuffer.greatest (written c.args.out.now) (written c.append-headed.new.self) xs c.append-headed.result) (head_then_packet c.args.at packet)
    (appends_refused g.O.OctetBuffer.greatest (written c.args.out.now) (written c.append-headed.new.self) (head_written c.args.at (length packet)) packet c.append-headed.result c.append-headed.result headed failed failed)

pub returns : goal.returns
returns g c =
    let written = g.O.OctetBuffer.written in
    let packet = c.args.packet.now in
    let first = sym c.is_err.ensures.value ∙ c.if-is_err.false in
    let value = c.is_err-2.ensures.value in
    let headed = subst (λ (xs : List ℕ). Appends g.O.OctetBuffer.greatest (written c.args.out.now) (written c.append-headed.new.self) xs c.append-headed.result) c.head_octets.ensures c.append-headed.ensures in
    subst (λ (xs : List ℕ). Appends g.O.OctetBuffer.greatest (written c.args.out.now) (written c.if-is_err-2.out) xs c.append-written.result) (head_then_packet c.args.at packet)
    (appends_both g.O.OctetBuffer.greatest (written c.args.out.now) (written c.append-headed.new.self) (written c.append-written.new.self) (written c.if-is_err-2.out) (head_written c.args.at (length packet)) packet c.append-headed.result c.append-written.result
    headed first c.append-written.ensures
    (λ e. elim c.if-is_err-2.branch [ then-is_err-2 w ↦ let t = w.if-is_err-2.true in cc (e, value, t) | else-is_err-2 w ↦ ap written w.out-is ])
    (λ e. elim c.if-is_err-2.branch [
      | then-is_err-2 w ↦ ap written w.out-is ∙ (w.truncate.ensures ∙ ap (λ (n : ℕ). take n (written c.append-written.new.self)) c.len-before.ensures.value)
      | else-is_err-2 w ↦ let f = w.if-is_err-2.false in cc (e, value, f)
    ]))
