use Rattle.std.proofs.Common.{ℕ}
use Rattle.rtt_base.specs.declared.text_packets.PayloadTypes.{PayloadTypes}
use Rattle.mixer_spec.specs.Setups.{Setup}
use Rattle.mixer_spec.specs.Table.{Table}
use Rattle.mix_loop.specs.Items.{Gave}
use Rattle.mix_loop.specs.Mixers.{Of, At, Keeps}
use Rattle.mix_loop.specs.Ports.{PortIsSound, SameSeat, PortHolds, GatheringTo, hand_of}
use Rattle.mix_loop.proofs.ports.Port.gather.Given as goal

abbrev pub invariant-loop : goal.invariant-loop
invariant-loop g l =
    PortIsSound g.I.Inlet.good l.leg l.self
    × SameSeat l.fn.self l.self
    × Keeps g.M.MixerCalls.legs g.M.MixerCalls.turns g.M.MixerCalls.addresses l.fn.mixer l.mixer
    × ((s : Setup) (payload_types : ℕ → PayloadTypes) (table : Table) (first : _) (gave : Gave _) → PortHolds g.I.Inlet.stands l.leg first l.fn.self gave → At (Of g.M.MixerCalls.stands payload_types) l.fn.mixer s table
    → GatheringTo g.I.Inlet.stands (Of g.M.MixerCalls.stands payload_types) s l.leg l.now first gave (hand_of l.fn.self) table l.self l.mixer)
