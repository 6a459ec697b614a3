use Rattle.std.proofs.Common.{refl, subst, sym, ◌∙◌}
use Rattle.mix_loop.specs.Mixers.{Hushes}
use Rattle.mixer_posts.specs.States.{SendingState}
use Rattle.mixer_posts.specs.Standing.{SendsFor}
use Rattle.mixer_posts.proofs.Calling.{KeepsAll}
use Rattle.mixer_posts.proofs.mixers.SendingMixerMixerCalls.hush.Goals as goal

pub invariant_of-self : goal.invariant_of-self
invariant_of-self g c = c.self.invariant ∙ sym c.hush.ensures.sources

pub returns-clause-hushed : goal.returns-clause-hushed
returns-clause-hushed g c =
    let new : SendingState g.row.O.Denot = record { mixer = c.hush.new.self; outbound = c.self.inside.outbound } in
    subst (λ (m : SendingState g.row.O.Denot). Hushes (SendsFor g.O.PostSink.took g.O.PostSink.sources g.O.PostSink.horizon) m new c.args.leg) c.self.view_is
    (λ s payload_types calls h may. record { stands = c.hush.ensures.stands s calls h.stands (may, h.stands.allowed); sent = h.sent; all = h.all; early = h.early; few = h.few })

pub returns-clause-keeps : goal.returns-clause-keeps
returns-clause-keeps g c =
    let new : SendingState g.row.O.Denot = record { mixer = c.hush.new.self; outbound = c.self.inside.outbound } in
    subst (λ (m : SendingState g.row.O.Denot). KeepsAll g.O.PostSink.addresses m new) c.self.view_is
    (record { legs = c.hush.ensures.legs; turns = c.hush.ensures.turns; addresses = refl })
