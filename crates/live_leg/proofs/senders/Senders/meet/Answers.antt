use Rattle.std.proofs.Common.{ap, sym}
use Rattle.rtt_base.specs.declared.text_packets.TextPacket.{TextPacket}
use Rattle.wire_spec.specs.Packets.{packet_of}
use Rattle.live_leg.proofs.Knowing.{meets_none, meets_text}
use Rattle.live_leg.proofs.senders.Senders.meet.Goals as goal

pub returns-in-Ok : goal.returns-in-Ok
returns-in-Ok c =
    meets_text c.args.self.now _ c.meet_text.new.self c.args.now c.primary_limit.result c.args.octets.now (packet_of c.read_text_within.new.out) c.deref.result.now.ssrc c.meet_text.result
    (λ h d k. record { payload_types = k.payload_types; most = k.most; follow = k.follow; sender = k.sender; known = k.known; moment = k.moment; last = k.last }) c.primary_limit.ensures c.in-Ok.ensures.exact
    (sym (ap (λ (x : TextPacket). x.ssrc) c.deref.ensures)) c.meet_text.ensures

pub returns-in-Err : goal.returns-in-Err
returns-in-Err c =
    meets_none c.args.self.now _ c.args.now c.primary_limit.result c.args.octets.now c.in-Err.field-0
    (λ h d k. record { payload_types = k.payload_types; most = k.most; follow = k.follow; sender = k.sender; known = k.known; moment = k.moment; last = k.last }) c.primary_limit.ensures c.in-Err.ensures.exact
