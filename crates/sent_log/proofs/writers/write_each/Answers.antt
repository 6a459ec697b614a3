use Rattle.std.proofs.Common.{List, ℕ, take, get_or, ap, subst, sym, ◌∙◌}
use Rattle.std.proofs.lemmas.Option.{slice_get-get_or}
use Rattle.rtt_base.specs.Buffers.{Appends}
use Rattle.rtp_text.proofs.Pieces.{one_more, one_refused}
use Rattle.sent_log.specs.Repeats.{nothing}
use Rattle.sent_log.specs.Writing.{kept_text, text_in}
use Rattle.sent_log.proofs.writers.write_each.Goals as goal

pub returns-then-is_err : goal.returns-then-is_err
returns-then-is_err g c =
    let written = g.O.OctetBuffer.written in
    let older = c.args.older.now in
    let i = c.loop-kept.kept-index in
    let k = get_or older i nothing in
    one_refused g.O.OctetBuffer.greatest (written c.args.out.now) (written c.loop-kept.out) (written c.append-appended.new.self) (written c.truncate.new.self) (text_in c.args.texts.now c.args.terminal.now c.args.entry.now) (kept_text c.args.texts.now c.args.terminal.now) older i k c.append-appended.result
    c.loop-kept.invariant (slice_get-get_or older i nothing c.loop-kept-test.true)
    (subst (λ (xs : List ℕ). Appends g.O.OctetBuffer.greatest (written c.loop-kept.out) (written c.append-appended.new.self) xs c.append-appended.result) c.kept_text_of-text.ensures c.append-appended.ensures)
    (sym c.is_err.ensures.value ∙ c.if-is_err.true)
    (c.truncate.ensures ∙ ap (λ (n : ℕ). take n (written c.append-appended.new.self)) c.len-before.ensures.value)

pub loop-kept-preserved : goal.loop-kept-preserved
loop-kept-preserved g c =
    let written = g.O.OctetBuffer.written in
    let older = c.args.older.now in
    let i = c.loop-kept.kept-index in
    let k = get_or older i nothing in
    one_more g.O.OctetBuffer.greatest (written c.args.out.now) (written c.loop-kept.out) (written c.append-appended.new.self) (kept_text c.args.texts.now c.args.terminal.now) older i k c.append-appended.result
    c.loop-kept.invariant (slice_get-get_or older i nothing c.loop-kept-test.true)
    (subst (λ (xs : List ℕ). Appends g.O.OctetBuffer.greatest (written c.loop-kept.out) (written c.append-appended.new.self) xs c.append-appended.result) c.kept_text_of-text.ensures c.append-appended.ensures)
    (sym c.is_err.ensures.value ∙ c.if-is_err.false)
