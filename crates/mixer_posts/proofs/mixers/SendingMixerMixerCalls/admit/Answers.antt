use Rattle.std.proofs.Common.{refl, subst, sym, ◌∙◌}
use Rattle.mix_loop.specs.Mixers.{Admits}
use Rattle.mixer_posts.specs.States.{SendingState}
use Rattle.mixer_posts.specs.Standing.{SendsFor}
use Rattle.mixer_posts.proofs.Calling.{KeepsAll}
use Rattle.mixer_posts.proofs.mixers.SendingMixerMixerCalls.admit.Goals as goal

pub invariant_of-self : goal.invariant_of-self
invariant_of-self g c = c.self.invariant ∙ sym c.admit.ensures.sources

pub returns-clause-admitted : goal.returns-clause-admitted
returns-clause-admitted g c =
    let new : SendingState g.row.O.Denot = record { mixer = c.admit.new.self; outbound = c.self.inside.outbound } in
    subst (λ (m : SendingState g.row.O.Denot). Admits (SendsFor g.O.PostSink.took g.O.PostSink.sources g.O.PostSink.horizon) m new c.args.leg c.args.listens c.admit.result) c.self.view_is
    (λ s payload_types calls h may.
    (record { stands = c.admit.ensures.stands s calls h.stands (may, h.stands.allowed); sent = h.sent; all = h.all; early = h.early; few = h.few }, c.admit.ensures.free s calls h.stands))

pub returns-clause-keeps : goal.returns-clause-keeps
returns-clause-keeps g c =
    let new : SendingState g.row.O.Denot = record { mixer = c.admit.new.self; outbound = c.self.inside.outbound } in
    subst (λ (m : SendingState g.row.O.Denot). KeepsAll g.O.PostSink.addresses m new) c.self.view_is
    (record { legs = c.admit.ensures.legs; turns = c.admit.ensures.turns; addresses = refl })
