use Rattle.std.proofs.Common.{List, length, ◌≤◌, subst}
use Rattle.rtt_base.specs.declared.limits.TheConstants.{MOST_PACKET_OCTETS}
use Rattle.wire_spec.specs.SentPackets.{packet_written}
use Rattle.rtp_text.specs.Writing.{packet_with}
use Rattle.packetizer.specs.declared.slots.KeptBlock.{KeptBlock}
use Rattle.packetizer.specs.Kept.{blocks_kept}
use Rattle.packetizer.proofs.Fitting.{kept_fits}
use Rattle.packetizer.proofs.windows.Window.packets_fit.Goals as goal

pub returns : goal.returns
returns c = λ payload_types head text short.
    let w = c.self.inside in
    subst (λ (kept : List KeptBlock). length (packet_written payload_types (packet_with head (blocks_kept head.timestamp kept) text)) ≤ MOST_PACKET_OCTETS) c.self.view_is
    (kept_fits payload_types head w.generations w.oldest w.places text c.self.invariant.2 c.self.invariant.0 c.self.invariant.1 c.self.invariant.3 short)
