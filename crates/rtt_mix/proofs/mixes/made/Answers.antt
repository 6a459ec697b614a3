use Rattle.std.proofs.Common.{subst, ◌∙◌}
use Rattle.std.specs.List.{concat}
use Rattle.file_spec.specs.Conferences.{meaning_of}
use Rattle.sent_log.specs.States.{State}
use Rattle.sent_log.specs.Files.{recordings_of}
use Rattle.rtt_mix.specs.Viewed.{AreSumsOf, AreViewsOf, summed}
use Rattle.rtt_mix.proofs.mixes.made.Goals as goal

pub returns-clause-views : goal.returns-clause-views
returns-clause-views g c =
    subst (λ (log : State). AreViewsOf (meaning_of c.args.conference.now) (recordings_of log) (concat c.in-Ok-views_on_threads.seen.views.items))
    (c.log.ensures ∙ (c.in-Ok.ensures ∙ c.into_sent.ensures)) c.in-Ok-views_on_threads.ensures.views

pub returns-clause-sums : goal.returns-clause-sums
returns-clause-sums g c =
    subst (λ (log : State). AreSumsOf (meaning_of c.args.conference.now) (recordings_of log) (summed c.in-Ok-views_on_threads.seen))
    (c.log.ensures ∙ (c.in-Ok.ensures ∙ c.into_sent.ensures)) c.in-Ok-views_on_threads.ensures.sums
