use Rattle.std.proofs.Common.{sym, ◌∙◌, subst}
use Rattle.std.proofs.lemmas.Bool.{leb-true}
use Rattle.mixer_spec.specs.Table.{entered}
use Rattle.mix_loop.specs.Ports.{SeatAt}
use Rattle.mix_loop.specs.Mixers.{Of}
use Rattle.mix_loop.proofs.Leaving.{not_away, too_early, no_place, comes}
use Rattle.mix_loop.proofs.ports.Port.come.Goals as goal

pub returns-then-not-is_away-clause-comes : goal.returns-then-not-is_away-clause-comes
returns-then-not-is_away-clause-comes g c = λ s payload_types table low stays h a. not_away (Of g.M.MixerCalls.stands payload_types) s c.args.leg table c.args.self.now c.args.mixer.now c.args.mixer.now a c.args.now h (sym c.is_away.ensures ∙ c.if-not-is_away.true)

pub returns-then-not-has_begun-clause-comes : goal.returns-then-not-has_begun-clause-comes
returns-then-not-has_begun-clause-comes g c = λ s payload_types table low stays h a.
    too_early (Of g.M.MixerCalls.stands payload_types) s c.args.leg table c.args.self.now c.args.mixer.now c.args.mixer.now a c.args.now stays h (sym c.has_begun.ensures ∙ c.if-not-has_begun.true)

pub returns-then-not-admit-clause-comes : goal.returns-then-not-admit-clause-comes
returns-then-not-admit-clause-comes g c = λ s payload_types table low stays h a.
    no_place (Of g.M.MixerCalls.stands payload_types) s c.args.leg table c.args.self.now c.args.mixer.now c.admit.new.self a c.args.now stays h low (sym c.is_away.ensures ∙ c.if-not-is_away.false) (leb-true c.args.self.now.stay.from c.args.now (sym c.has_begun.ensures ∙ c.if-not-has_begun.false)) c.is_before_end-listens.result c.admit.result c.is_before_end-listens.ensures (λ s calls. c.admit.ensures.admitted s payload_types calls) c.if-not-admit.true

pub returns-clause-comes : goal.returns-clause-comes
returns-clause-comes g c = λ s payload_types table low stays h a.
    let r = comes (Of g.M.MixerCalls.stands payload_types) s c.args.leg table c.args.self.now c.args.mixer.now c.admit.new.self a c.args.now stays h low (sym c.is_away.ensures ∙ c.if-not-is_away.false) (leb-true c.args.self.now.stay.from c.args.now (sym c.has_begun.ensures ∙ c.if-not-has_begun.false)) c.is_before_end-listens.result c.admit.result c.is_before_end-listens.ensures (λ s calls. c.admit.ensures.admitted s payload_types calls) c.if-not-admit.false in
    (r.0, subst (SeatAt (entered s c.args.leg c.args.now table).seats c.args.leg) (sym c.seat_with-self.ensures) r.1)
