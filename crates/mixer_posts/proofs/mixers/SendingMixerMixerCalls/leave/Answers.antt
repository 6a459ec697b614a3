use Rattle.std.proofs.Common.{refl, subst, sym, ◌∙◌}
use Rattle.mix_loop.specs.Mixers.{Leaves}
use Rattle.mixer_posts.specs.States.{SendingState}
use Rattle.mixer_posts.specs.Standing.{SendsFor}
use Rattle.mixer_posts.proofs.Calling.{KeepsAll}
use Rattle.mixer_posts.proofs.mixers.SendingMixerMixerCalls.leave.Goals as goal

pub invariant_of-self : goal.invariant_of-self
invariant_of-self g c = c.self.invariant ∙ sym c.leave.ensures.sources

pub returns-clause-left : goal.returns-clause-left
returns-clause-left g c =
    let new : SendingState g.row.O.Denot = record { mixer = c.leave.new.self; outbound = c.self.inside.outbound } in
    subst (λ (m : SendingState g.row.O.Denot). Leaves (SendsFor g.O.PostSink.took g.O.PostSink.sources g.O.PostSink.horizon) m new c.args.leg c.leave.result) c.self.view_is
    (λ s payload_types calls h.
    (record { stands = c.leave.ensures.stands s calls h.stands h.stands.allowed; sent = h.sent; all = h.all; early = h.early; few = h.few }, c.leave.ensures.may s calls h.stands))

pub returns-clause-keeps : goal.returns-clause-keeps
returns-clause-keeps g c =
    let new : SendingState g.row.O.Denot = record { mixer = c.leave.new.self; outbound = c.self.inside.outbound } in
    subst (λ (m : SendingState g.row.O.Denot). KeepsAll g.O.PostSink.addresses m new) c.self.view_is
    (record { legs = c.leave.ensures.legs; turns = c.leave.ensures.turns; addresses = refl })
