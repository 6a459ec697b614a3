use Rattle.std.proofs.Common.{inl, inr}
use Rattle.rtt_live.proofs.mixer_taps.TappedMixerMixerCalls.turn.Goals as goal

pub returns-in-Err-clause-halted : goal.returns-in-Err-clause-halted
returns-in-Err-clause-halted g c = λ s payload_types calls h. inl (c.in-Err.ensures.halted s payload_types calls h.made)

pub returns-then-self-clause-halted : goal.returns-then-self-clause-halted
returns-then-self-clause-halted g c = λ s payload_types calls h. inr (c.in-Ok.ensures.turned s payload_types calls h.made)
