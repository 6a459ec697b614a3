use Rattle.std.proofs.Common.{◌≡◌, ◌≤◌, ◌<◌, ◌+◌, ◌*◌, ◌^◌, ℕ, length}
use Rattle.rtt_base.specs.declared.text_packets.PayloadTypes.{PayloadTypes}
use Rattle.mixer_spec.specs.Setups.{Setup}
use Rattle.mix_loop.specs.Addresses.{AreWithin, ports_of}
use Rattle.mix_loop.specs.Order.{AreInTurn}
use Rattle.mix_loop.specs.Clocks.{AtTicks, OnlyTimePassed, RiseTo, moments_of}
use Rattle.mix_loop.specs.Walks.{AllGrew, AreAt, IsPaused, IsServing}
use Rattle.mix_loop.proofs.live_turns.take_turns.Given as goal

abbrev pub invariant-loop-k : goal.invariant-loop-k
invariant-loop-k g l =
    AreAt l.ports
    × (g.M.MixerCalls.legs l.mixer ≡ length l.ports)
    × (g.M.MixerCalls.turns l.mixer ≡ l.k)
    × IsPaused l.k (g.C.TurnClock.pauses l.fn.clock) (g.C.TurnClock.pauses l.clock)
    × ((s : Setup) (payload_types : ℕ → PayloadTypes) → s.legs ≡ length l.fn.ports → IsServing g.I.Consumer.popped g.M.MixerCalls.stands s payload_types 0 l.fn.ports l.fn.mixer
    → (v : IsServing g.I.Consumer.popped g.M.MixerCalls.stands s payload_types l.k l.ports l.mixer) × (g.C.TurnClock.tells → AtTicks l.fn.tick l.began (moments_of v.calls) × RiseTo (g.C.TurnClock.moment l.clock) (moments_of v.calls))
    × AreInTurn g.M.MixerCalls.stands g.M.MixerCalls.addresses (g.C.TurnClock.pauses l.fn.clock) l.mixer s payload_types v.calls)
    × AllGrew g.I.Consumer.popped g.I.Consumer.began l.fn.ports l.ports
    × (l.began ≤ g.C.TurnClock.moment l.clock)
    × (g.C.TurnClock.moment l.fn.clock ≤ l.began)
    × (g.C.TurnClock.tells → l.began + l.k * l.fn.tick < 2 ^ 47 → l.began + l.k * l.fn.tick ≤ g.C.TurnClock.moment l.clock)
    × OnlyTimePassed g.C.TurnClock l.fn.clock l.clock
    × (ports_of (g.M.MixerCalls.addresses l.mixer) ≡ ports_of (g.M.MixerCalls.addresses l.fn.mixer))
    × (l.due < 2 ^ 47)
    × (l.began + l.k * l.fn.tick < 2 ^ 47 → l.began + l.k * l.fn.tick ≤ l.due)
    × (g.C.TurnClock.pauses l.clock ≤ g.C.TurnClock.pauses l.fn.clock + l.k)
    × AreWithin (g.C.TurnClock.pauses l.fn.clock + l.k) (g.M.MixerCalls.addresses l.mixer)
