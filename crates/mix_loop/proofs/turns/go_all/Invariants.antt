use Rattle.std.proofs.Common.{ℕ, List}
use Rattle.rtt_base.specs.declared.text_packets.PayloadTypes.{PayloadTypes}
use Rattle.mixer_spec.specs.Setups.{Setup}
use Rattle.mixer_spec.specs.Table.{Table}
use Rattle.mixer_spec.specs.Plain.{goes_below}
use Rattle.mix_loop.specs.Mixers.{Of, Keeps}
use Rattle.mix_loop.specs.Turns.{Known, AreSound, IsNow, Settled, GoesBy}
use Rattle.mix_loop.proofs.turns.go_all.Given as goal

abbrev pub invariant-loop-leg : goal.invariant-loop-leg
invariant-loop-leg g l =
    AreSound g.I.Inlet.good l.ports
    × Keeps g.M.MixerCalls.legs g.M.MixerCalls.turns g.M.MixerCalls.addresses l.fn.mixer l.mixer
    × ((s : Setup) (payload_types : ℕ → PayloadTypes) (firsts : List _) (kn : ℕ → Known _) (table : Table) → IsNow g.I.Inlet.stands (Of g.M.MixerCalls.stands payload_types) s firsts kn table l.fn.ports l.fn.mixer → Settled kn
    → GoesBy g.I.Inlet.stands (Of g.M.MixerCalls.stands payload_types) s firsts (goes_below s l.now l.leg) kn table l.ports l.mixer)
