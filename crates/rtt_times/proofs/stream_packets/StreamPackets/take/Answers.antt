use Rattle.std.proofs.Common.{refl, subst}
use Rattle.rtt_base.specs.declared.text_packets.TextPacket.{TextPacket}
use Rattle.wire_spec.specs.Packets.{packet_of}
use Rattle.reorder_buffer.specs.States.{current_of}
use Rattle.rtt_times.specs.Heard.{Counts}
use Rattle.rtt_times.proofs.Hearing.{hears_current}
use Rattle.rtt_times.proofs.stream_packets.StreamPackets.take.Goals as goal
use Rattle.receiver.proofs.Parts.{on_ok_then as on_ok}

pub returns-clause-hears : goal.returns-clause-hears
returns-clause-hears c =
    let counts : Counts _ _ c.args.at c.args.self.now c.count.new.self = subst (λ (q : TextPacket). Counts q.source q.seq c.args.at c.args.self.now c.count.new.self) c.packet-current.ensures c.in_ok-count.ensures.counts in
    on_ok c.drain.result (λ d. hears_current c.args.buffer.now c.arrive-taken.new.self c.drain.new.buffer c.args.self.now c.count.new.self _ (packet_of (current_of c.args.buffer.now)) c.args.at counts c.arrive-taken.ensures.stands d refl refl refl refl) c.drain.ensures.drains
