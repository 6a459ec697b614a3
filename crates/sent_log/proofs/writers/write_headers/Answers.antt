use Rattle.std.proofs.Common.{◌≡◌, ◌+◌, List, ℕ, [], ◌∷◌, take, get_or, ap, subst, sym, ◌∙◌}
use Rattle.std.proofs.lemmas.Option.{slice_get-get_or}
use Rattle.rtt_base.specs.Buffers.{Appends}
use Rattle.rtp_text.proofs.Pieces.{one_more, one_refused}
use Rattle.sent_log.specs.Lists.{list_at}
use Rattle.sent_log.specs.Repeats.{nothing, offset_of}
use Rattle.sent_log.specs.Runs.{IsRun}
use Rattle.sent_log.specs.Writing.{header_of_sizes, kept_header, kept_texts}
use Rattle.sent_log.proofs.Written.{texts_more}
use Rattle.sent_log.proofs.writers.write_headers.Goals as goal

pub returns-then-is_err-clause-headers : goal.returns-then-is_err-clause-headers
returns-then-is_err-clause-headers g c = λ texts h.
    let written = g.O.OctetBuffer.written in
    let t140 = c.args.terminal.now.settings.payload_types.t140 in
    let older = c.args.older.now in
    let i = c.loop-kept.kept-index in
    let k = get_or older i nothing in
    let f = kept_header texts c.args.terminal.now c.args.timestamp t140 in
    let header : c.header_octets-header.result ≡ f k =
    c.header_octets-header.ensures ∙ (ap (λ (n : ℕ). header_of_sizes t140 n c.len_of-len.result) c.offset.ensures.value ∙ ap (λ (n : ℕ). header_of_sizes t140 (offset_of c.args.timestamp k) n) (c.len_of-len.ensures.is texts h)) in
    one_refused g.O.OctetBuffer.greatest (written c.args.out.now) (written c.loop-kept.out) (written c.append-appended.new.self) (written c.truncate.new.self) (t140 ∷ []) f older i k c.append-appended.result
    (c.loop-kept.invariant.headers texts h) (slice_get-get_or older i nothing c.loop-kept-test.true)
    (subst (λ (xs : List ℕ). Appends g.O.OctetBuffer.greatest (written c.loop-kept.out) (written c.append-appended.new.self) xs c.append-appended.result) header c.append-appended.ensures)
    (sym c.is_err.ensures.value ∙ c.if-is_err.true)
    (c.truncate.ensures ∙ ap (λ (n : ℕ). take n (written c.append-appended.new.self)) c.len-before.ensures.value)

pub loop-kept-preserved : goal.loop-kept-preserved
loop-kept-preserved g c =
    let written = g.O.OctetBuffer.written in
    let t = c.args.terminal.now in
    let t140 = t.settings.payload_types.t140 in
    let older = c.args.older.now in
    let i = c.loop-kept.kept-index in
    let k = get_or older i nothing in
    let there = slice_get-get_or older i nothing c.loop-kept-test.true in
    record {
      headers = λ texts h.
          let f = kept_header texts t c.args.timestamp t140 in
          let header : c.header_octets-header.result ≡ f k =
          c.header_octets-header.ensures ∙ (ap (λ (n : ℕ). header_of_sizes t140 n c.len_of-len.result) c.offset.ensures.value ∙ ap (λ (n : ℕ). header_of_sizes t140 (offset_of c.args.timestamp k) n) (c.len_of-len.ensures.is texts h)) in
          one_more g.O.OctetBuffer.greatest (written c.args.out.now) (written c.loop-kept.out) (written c.append-appended.new.self) f older i k c.append-appended.result
          (c.loop-kept.invariant.headers texts h) there
          (subst (λ (xs : List ℕ). Appends g.O.OctetBuffer.greatest (written c.loop-kept.out) (written c.append-appended.new.self) xs c.append-appended.result) header c.append-appended.ensures)
          (sym c.is_err.ensures.value ∙ c.if-is_err.false);
      run = λ texts h.
          subst (λ (xs : List ℕ). IsRun (list_at texts (t.first + c.args.source)) xs c.follow_kept.new.run) (texts_more texts t older i k there)
          (c.follow_kept.ensures texts (kept_texts texts t (take i older)) h (c.loop-kept.invariant.run texts h));
    }
