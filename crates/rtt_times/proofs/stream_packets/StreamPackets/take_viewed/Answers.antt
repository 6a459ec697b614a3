use Rattle.std.proofs.Common.{refl}
use Rattle.rtp_text.specs.Views.{packet_in}
use Rattle.rtt_times.specs.declared.stream_packets.StreamPackets.{StreamPackets}
use Rattle.rtt_times.proofs.Hearing.{hears_viewed}
use Rattle.rtt_times.proofs.stream_packets.StreamPackets.take_viewed.Goals as goal

pub returns-clause-hears : goal.returns-clause-hears
returns-clause-hears c =
    let new : StreamPackets = record c.count.new.self { used = c.push.new.self } in
    hears_viewed c.args.buffer.now c.give_at_once-ready.new.self c.args.self.now c.count.new.self new (packet_in c.args.view.now) c.args.at c.args.number c.give_at_once-ready.result c.in_ok-count.ensures.counts c.requires.number c.give_at_once-ready.ensures.stands
    c.in_ok-push.ensures.items refl refl refl refl
