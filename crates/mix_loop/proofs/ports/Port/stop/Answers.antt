use Rattle.std.proofs.Common.{sym, ◌∙◌}
use Rattle.mix_loop.specs.Mixers.{Of}
use Rattle.mix_loop.proofs.Leaving.{stops, not_stops}
use Rattle.mix_loop.proofs.ports.Port.stop.Goals as goal

pub returns-then-not-is_to_stop-clause-stops : goal.returns-then-not-is_to_stop-clause-stops
returns-then-not-is_to_stop-clause-stops g c = λ s payload_types table stays h a. not_stops (Of g.M.MixerCalls.stands payload_types) s c.args.leg table c.args.self.now c.args.mixer.now c.args.mixer.now a c.args.now stays h (sym c.is_to_stop.ensures ∙ c.if-not-is_to_stop.true)

pub returns-clause-stops : goal.returns-clause-stops
returns-clause-stops g c = λ s payload_types table stays h a. stops (Of g.M.MixerCalls.stands payload_types) s c.args.leg table c.args.self.now c.args.mixer.now c.hush.new.self a c.args.now stays h (sym c.is_to_stop.ensures ∙ c.if-not-is_to_stop.false) (λ s calls. c.hush.ensures.hushed s payload_types calls)
