use Rattle.std.proofs.Common.{List, ℕ, [], ap, take, subst, sym, ◌∙◌}
use Rattle.rtt_base.specs.Buffers.{Appends}
use Rattle.rtt_base.proofs.Appending.{appends_both, appends_refused}
use Rattle.wire_spec.specs.Rtp.{Head, rtp_written}
use Rattle.wire_spec.specs.SentPackets.{payload_sent}
use Rattle.rtp_text.specs.Headers.{spelled}
use Rattle.rtp_text.proofs.Parts.{headed}
use Rattle.packetizer.proofs.Speaking.{has_room}
use Rattle.rtt_base.specs.declared.limits.TheConstants.{MOST_PACKET_OCTETS}
use Rattle.sent_log.specs.Writing.{blocks_in, packet_in, text_in}
use Rattle.sent_log.proofs.Overwriting.{appended_short}
use Rattle.sent_log.proofs.Written.{packet_short}
use Rattle.sent_log.proofs.writers.write_packet.Goals as goal
use Rattle.sent_log.proofs.writers.write_packet.Goals.{then-is_err-2, else-is_err-2}

pub returns-then-is_err-clause-packet : goal.returns-then-is_err-clause-packet
returns-then-is_err-clause-packet g c =
    let written = g.O.OctetBuffer.written in
    let texts = c.args.texts.now in
    let t = c.args.terminal.now in
    let failed = sym c.is_err.ensures.value ∙ c.if-is_err.true in
    let text = text_in texts t c.args.entry.now in
    let payload = payload_sent t.settings.payload_types (blocks_in texts t c.args.head.now.timestamp c.args.older.now) text in
    let h = spelled c.rtp_head-rtp.result in
    subst (λ (xs : List ℕ). Appends g.O.OctetBuffer.greatest (written c.args.out.now) (written c.write_head-headed.new.out) xs c.write_head-headed.result)
    (headed h payload ∙ ap (λ (k : Head). rtp_written k payload) (c.rtp_head-rtp.ensures.value texts t text))
    (appends_refused g.O.OctetBuffer.greatest (written c.args.out.now) (written c.write_head-headed.new.out) (rtp_written h []) payload c.write_head-headed.result c.write_head-headed.result c.write_head-headed.ensures failed failed)

pub returns-then-is_err-clause-fits : goal.returns-then-is_err-clause-fits
returns-then-is_err-clause-fits g c =
    let written = g.O.OctetBuffer.written in
    let texts = c.args.texts.now in
    let t = c.args.terminal.now in
    has_room g.O.OctetBuffer.greatest (written c.args.out.now) (written c.write_head-headed.new.out) (packet_in texts t c.args.older.now c.args.entry.now c.args.head.now) c.write_head-headed.result
    (packet_short texts t c.args.older.now c.args.entry.now c.args.head.now c.requires.texts c.requires.text c.requires.few c.requires.below)
    (returns-then-is_err-clause-packet g c)

pub returns-clause-packet : goal.returns-clause-packet
returns-clause-packet g c =
    let written = g.O.OctetBuffer.written in
    let value = c.is_err-2.ensures.value in
    let texts = c.args.texts.now in
    let t = c.args.terminal.now in
    let text = text_in texts t c.args.entry.now in
    let payload = payload_sent t.settings.payload_types (blocks_in texts t c.args.head.now.timestamp c.args.older.now) text in
    let h = spelled c.rtp_head-rtp.result in
    let both = appends_both g.O.OctetBuffer.greatest (written c.args.out.now) (written c.write_head-headed.new.out) (written c.write_payload-written.new.out) (written c.if-is_err-2.out) (rtp_written h []) payload c.write_head-headed.result c.write_payload-written.result
    c.write_head-headed.ensures (sym c.is_err.ensures.value ∙ c.if-is_err.false) c.write_payload-written.ensures
    (λ e. elim c.if-is_err-2.branch [ then-is_err-2 w ↦ let t = w.if-is_err-2.true in cc (e, value, t) | else-is_err-2 w ↦ ap written w.out-is ])
    (λ e. elim c.if-is_err-2.branch [
      | then-is_err-2 w ↦ ap written w.out-is ∙ (w.truncate.ensures ∙ ap (λ (n : ℕ). take n (written c.write_payload-written.new.out)) c.len-before.ensures.value)
      | else-is_err-2 w ↦ let f = w.if-is_err-2.false in cc (e, value, f)
    ]) in
    subst (λ (xs : List ℕ). Appends g.O.OctetBuffer.greatest (written c.args.out.now) (written c.if-is_err-2.out) xs c.write_payload-written.result)
    (headed h payload ∙ ap (λ (k : Head). rtp_written k payload) (c.rtp_head-rtp.ensures.value texts t text)) both

pub returns-clause-fits : goal.returns-clause-fits
returns-clause-fits g c =
    let written = g.O.OctetBuffer.written in
    let texts = c.args.texts.now in
    let t = c.args.terminal.now in
    has_room g.O.OctetBuffer.greatest (written c.args.out.now) (written c.if-is_err-2.out) (packet_in texts t c.args.older.now c.args.entry.now c.args.head.now) c.write_payload-written.result
    (packet_short texts t c.args.older.now c.args.entry.now c.args.head.now c.requires.texts c.requires.text c.requires.few c.requires.below)
    (returns-clause-packet g c)

pub returns-then-is_err-clause-most : goal.returns-then-is_err-clause-most
returns-then-is_err-clause-most g c =
    let written = g.O.OctetBuffer.written in
    let texts = c.args.texts.now in
    let t = c.args.terminal.now in
    appended_short c.write_head-headed.result (written c.args.out.now) (written c.write_head-headed.new.out) (packet_in texts t c.args.older.now c.args.entry.now c.args.head.now) MOST_PACKET_OCTETS
    (packet_short texts t c.args.older.now c.args.entry.now c.args.head.now c.requires.texts c.requires.text c.requires.few c.requires.below)
    (returns-then-is_err-clause-packet g c).ok

pub returns-clause-most : goal.returns-clause-most
returns-clause-most g c =
    let written = g.O.OctetBuffer.written in
    let texts = c.args.texts.now in
    let t = c.args.terminal.now in
    appended_short c.write_payload-written.result (written c.args.out.now) (written c.if-is_err-2.out) (packet_in texts t c.args.older.now c.args.entry.now c.args.head.now) MOST_PACKET_OCTETS
    (packet_short texts t c.args.older.now c.args.entry.now c.args.head.now c.requires.texts c.requires.text c.requires.few c.requires.below)
    (returns-clause-packet g c).ok
