use Rattle.wire_spec.specs.Packets.{packet_of}
use Rattle.rtp_text.specs.Views.{packet_in}
use Rattle.rtt_times.proofs.Hearing.{no_text_heard, text_heard, with_packet_heard}
use Rattle.rtt_times.proofs.stream_packets.StreamPackets.take_octets.Goals as goal
use Rattle.receiver.proofs.Parts.{on_ok_then as on_ok}

pub returns-in-Some-next_in_order-clause-hears : goal.returns-in-Some-next_in_order-clause-hears
returns-in-Some-next_in_order-clause-hears c =
    on_ok c.take_viewed.result (text_heard c.args.ssrc c.args.payload_types c.args.at c.args.octets.now (packet_in c.in-Some.view) c.args.buffer.now c.take_viewed.new.buffer c.args.self.now c.take_viewed.new.self c.in-Some.ensures.packet) c.take_viewed.ensures.hears

pub returns-in-Ok-clause-hears : goal.returns-in-Ok-clause-hears
returns-in-Ok-clause-hears c =
    let p = packet_of c.read_text.new.out in
    on_ok c.take.result (λ h. text_heard c.args.ssrc c.args.payload_types c.args.at c.args.octets.now p c.args.buffer.now c.take.new.buffer c.args.self.now c.take.new.self c.in-Ok.ensures.exact
    (with_packet_heard c.args.buffer.now c.take.new.buffer c.read_text.new.out c.args.self.now c.take.new.self p c.args.at h)) c.take.ensures.hears

pub returns-in-Err-clause-hears : goal.returns-in-Err-clause-hears
returns-in-Err-clause-hears c = no_text_heard c.args.ssrc c.args.payload_types c.args.at c.args.octets.now c.in-Err.field-0 c.args.buffer.now c.read_text.new.out c.args.self.now c.in-Err.ensures.exact
