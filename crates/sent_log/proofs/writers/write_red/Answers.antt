use Rattle.std.proofs.Common.{◌+◌, List, ℕ, [], ◌∷◌, ◌++◌, ap, take, subst, sym, ◌∙◌}
use Rattle.std.specs.List.{flat_map}
use Rattle.rtt_base.specs.Buffers.{Appends}
use Rattle.rtt_base.proofs.Appending.{appends_both, appends_refused}
use Rattle.sent_log.specs.Lists.{list_at}
use Rattle.sent_log.specs.Runs.{IsRun}
use Rattle.sent_log.specs.Writing.{kept_header, kept_texts, text_in}
use Rattle.sent_log.proofs.Written.{if_ok, red_is}
use Rattle.sent_log.proofs.writers.write_red.Goals as goal
use Rattle.sent_log.proofs.writers.write_red.Goals.{then-is_err-2, else-is_err-2}

pub returns-then-is_err : goal.returns-then-is_err
returns-then-is_err g c =
    let written = g.O.OctetBuffer.written in
    let texts = c.args.texts.now in
    let t = c.args.terminal.now in
    let t140 = t.settings.payload_types.t140 in
    let failed = sym c.is_err.ensures.value ∙ c.if-is_err.true in
    let text = text_in texts t c.args.entry.now in
    subst (λ (xs : List ℕ). Appends g.O.OctetBuffer.greatest (written c.args.out.now) (written c.write_headers-headed.new.out) xs c.write_headers-headed.result)
    (red_is texts t c.args.timestamp t140 c.args.older.now text)
    (appends_refused g.O.OctetBuffer.greatest (written c.args.out.now) (written c.write_headers-headed.new.out) (flat_map (kept_header texts t c.args.timestamp t140) c.args.older.now ++ t140 ∷ []) (kept_texts texts t c.args.older.now ++ text) c.write_headers-headed.result c.write_headers-headed.result
    (c.write_headers-headed.ensures.headers texts c.requires.texts) failed failed)

pub write_texts-written-requires-clause-run : goal.write_texts-written-requires-clause-run
write_texts-written-requires-clause-run g c =
    let texts = c.args.texts.now in
    let t = c.args.terminal.now in
    c.follow_entry.ensures texts t (kept_texts texts t c.args.older.now) c.requires.text
    (if_ok (IsRun (list_at texts (t.first + c.args.entry.now.source)) (kept_texts texts t c.args.older.now) c.write_headers-headed.new.run) c.write_headers-headed.result
    (c.write_headers-headed.ensures.run texts c.requires.texts) (sym c.is_err.ensures.value ∙ c.if-is_err.false))

pub returns : goal.returns
returns g c =
    let written = g.O.OctetBuffer.written in
    let texts = c.args.texts.now in
    let t = c.args.terminal.now in
    let t140 = t.settings.payload_types.t140 in
    let text = text_in texts t c.args.entry.now in
    let first = sym c.is_err.ensures.value ∙ c.if-is_err.false in
    let value = c.is_err-2.ensures.value in
    subst (λ (xs : List ℕ). Appends g.O.OctetBuffer.greatest (written c.args.out.now) (written c.if-is_err-2.out) xs c.write_texts-written.result)
    (red_is texts t c.args.timestamp t140 c.args.older.now text)
    (appends_both g.O.OctetBuffer.greatest (written c.args.out.now) (written c.write_headers-headed.new.out) (written c.write_texts-written.new.out) (written c.if-is_err-2.out) (flat_map (kept_header texts t c.args.timestamp t140) c.args.older.now ++ t140 ∷ []) (kept_texts texts t c.args.older.now ++ text)
    c.write_headers-headed.result c.write_texts-written.result
    (c.write_headers-headed.ensures.headers texts c.requires.texts) first c.write_texts-written.ensures
    (λ e. elim c.if-is_err-2.branch [ then-is_err-2 w ↦ let t = w.if-is_err-2.true in cc (e, value, t) | else-is_err-2 w ↦ ap written w.out-is ])
    (λ e. elim c.if-is_err-2.branch [
      | then-is_err-2 w ↦ ap written w.out-is ∙ (w.truncate.ensures ∙ ap (λ (n : ℕ). take n (written c.write_texts-written.new.out)) c.len-before.ensures.value)
      | else-is_err-2 w ↦ let f = w.if-is_err-2.false in cc (e, value, f)
    ]))
