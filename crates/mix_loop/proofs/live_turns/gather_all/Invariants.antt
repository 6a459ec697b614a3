use Rattle.std.proofs.Common.{◌≡◌, ℕ, List, Some, length}
use Rattle.std.specs.Prelude.{slice_get}
use Rattle.rtt_base.specs.declared.text_packets.PayloadTypes.{PayloadTypes}
use Rattle.mixer_spec.specs.Setups.{Setup}
use Rattle.mixer_spec.specs.Table.{Call}
use Rattle.mix_loop.specs.Mixers.{Keeps}
use Rattle.mix_loop.specs.declared.live_ports.LivePort.{LivePort}
use Rattle.mix_loop.specs.Handed.{HasSignals}
use Rattle.mix_loop.specs.LivePorts.{PortAt}
use Rattle.mix_loop.specs.Walks.{AllGrew, AreAt, WalkedTo}
use Rattle.mix_loop.proofs.live_turns.gather_all.Given as goal

abbrev pub invariant-loop-leg : goal.invariant-loop-leg
invariant-loop-leg g l =
    AreAt l.ports
    × Keeps g.M.MixerCalls.legs g.M.MixerCalls.turns g.M.MixerCalls.addresses l.fn.mixer l.mixer
    × AllGrew g.I.Consumer.popped g.I.Consumer.began l.fn.ports l.ports
    × ((s : Setup) (payload_types : ℕ → PayloadTypes) (calls : List Call) (last : ℕ → ℕ) → s.legs ≡ length l.fn.ports → g.M.MixerCalls.stands l.fn.mixer s payload_types calls
    → ((j : ℕ) (p : LivePort _) → slice_get l.fn.ports j ≡ Some p → PortAt g.I.Consumer.popped s calls j (HasSignals (last j)) p)
    → WalkedTo g.I.Consumer.popped g.M.MixerCalls.stands s payload_types calls last l.leg l.ports l.mixer)
