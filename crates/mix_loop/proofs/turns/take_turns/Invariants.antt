use Rattle.std.proofs.Common.{◌≡◌, ℕ, List, length}
use Rattle.rtt_base.specs.declared.text_packets.PayloadTypes.{PayloadTypes}
use Rattle.mixer_spec.specs.Setups.{Setup}
use Rattle.mixer_spec.specs.Table.{Table}
use Rattle.mix_loop.specs.Calm.{AreCalmBefore}
use Rattle.mix_loop.specs.Turns.{Known, AreSound, IsNow, IsBefore, BeforeTo}
use Rattle.mix_loop.specs.Mixers.{Of}
use Rattle.mix_loop.proofs.turns.take_turns.Given as goal

abbrev pub invariant-loop-k : goal.invariant-loop-k
invariant-loop-k g l =
    AreSound g.I.Inlet.good l.ports
    × (g.M.MixerCalls.legs l.mixer ≡ length l.ports)
    × (g.M.MixerCalls.turns l.mixer ≡ l.k)
    × AreCalmBefore l.calm l.ports
    × ((s : Setup) (payload_types : ℕ → PayloadTypes) (firsts : List _) (kn : ℕ → Known _) (table : Table) → IsNow g.I.Inlet.stands (Of g.M.MixerCalls.stands payload_types) s firsts kn table l.fn.ports l.fn.mixer → IsBefore s l.tick l.turns 0 kn table
    → BeforeTo g.I.Inlet.stands (Of g.M.MixerCalls.stands payload_types) s firsts l.tick l.turns l.k l.ports l.mixer)
