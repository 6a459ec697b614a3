use Rattle.std.proofs.Common.{subst}
use Rattle.mix_loop.specs.Mixers.{TellsIdle}
use Rattle.mixer_posts.specs.States.{SendingState}
use Rattle.mixer_posts.specs.Standing.{SendsFor}
use Rattle.mixer_posts.proofs.mixers.SendingMixerMixerCalls.idle.Goals as goal

pub returns : goal.returns
returns g c =
    subst (λ (m : SendingState g.row.O.Denot). TellsIdle (SendsFor g.O.PostSink.took g.O.PostSink.sources g.O.PostSink.horizon) m c.idle.result) c.self.view_is
    (λ s payload_types calls h. c.idle.ensures s calls h.stands)
