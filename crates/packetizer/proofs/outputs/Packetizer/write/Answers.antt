use Rattle.std.proofs.Common.{◌<◌, ℕ, List, length, subst, sym, arith}
use Rattle.rtt_base.specs.Buffers.{Appends}
use Rattle.wire_spec.specs.SentPackets.{packet_written}
use Rattle.stream_spec.specs.Own.{sent_of}
use Rattle.rtp_text.specs.declared.block_writers.TextHead.{TextHead}
use Rattle.rtp_text.specs.Writing.{packet_with}
use Rattle.packetizer.specs.Kept.{blocks_kept}
use Rattle.packetizer.specs.declared.outputs.PacketizerSettings.{PacketizerSettings}
use Rattle.packetizer.specs.OutputSettings.{AreSettings}
use Rattle.packetizer.specs.OutputStates.{State}
use Rattle.packetizer.specs.Speakers.{text_of}
use Rattle.packetizer.specs.OutputStanding.{PacketizerStandsFor, source_at}
use Rattle.packetizer.proofs.Speaking.{has_room, speaker_is, packet_is, more_written}
use Rattle.packetizer.proofs.outputs.Packetizer.write.Goals as goal

pub returns-clause-packet : goal.returns-clause-packet
returns-clause-packet g c = λ settings sources past media s q n.
    let written = g.O.OctetBuffer.written in
    let r = subst (λ (st : State). PacketizerStandsFor settings sources st past) (sym c.self.view_is) s in
    let k = subst (λ (x : PacketizerSettings). AreSettings x) r.settings_is c.self.invariant in
    let there : c.args.source < length c.self.inside.speakers.items = subst (λ (st : State). c.args.source < length st.speakers) (sym c.self.view_is) c.requires.source in
    let speaker = speaker_is settings sources _ past c.args.source c.index-speaker.result.now r there c.index-speaker.ensures in
    let e = text_of sources c.args.source media c.args.text.now in
    let marker_bit = c.is_after_pause.ensures settings.generations settings.timestamp (source_at sources c.args.source) (sent_of (source_at sources c.args.source) past) speaker in
    subst (λ (xs : List ℕ). Appends g.O.OctetBuffer.greatest (written c.args.out.now) (written c.write_text.new.out) xs c.write_text.result)
    (packet_is settings c.self.inside.settings past e c.index-speaker.result.now c.is_after_pause.result c.self.inside.seq c.args.timestamp k r.settings_is r.sent n speaker marker_bit r.seq q)
    c.write_text.ensures

pub returns-clause-some : goal.returns-clause-some
returns-clause-some g c =
    let written = g.O.OctetBuffer.written in
    let payload_types = c.self.inside.settings.payload_types in
    more_written c.write_text.result (written c.args.out.now) (written c.write_text.new.out) (packet_written payload_types _) (omega arith) c.write_text.ensures.ok

pub returns-clause-fits : goal.returns-clause-fits
returns-clause-fits g c =
    let written = g.O.OctetBuffer.written in
    let settings = c.self.inside.settings in
    let speaker = c.index-speaker.result.now in
    let head : TextHead = record { marker_bit = c.is_after_pause.result; seq = c.self.inside.seq; timestamp = c.args.timestamp; ssrc = settings.ssrc; source = speaker.source } in
    has_room g.O.OctetBuffer.greatest (written c.args.out.now) (written c.write_text.new.out) (packet_written settings.payload_types (packet_with head (blocks_kept head.timestamp speaker.window) c.args.text.now)) c.write_text.result
    (c.packets_fit.ensures settings.payload_types head c.args.text.now c.requires.text) c.write_text.ensures
