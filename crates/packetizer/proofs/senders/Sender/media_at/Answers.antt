use Rattle.std.proofs.Common.{◌≡◌, ℕ, ◌+◌, ap, sym, subst, ◌∙◌}
use Rattle.std.specs.Prelude.{min}
use Rattle.stream_spec.specs.Typed.{longest_step}
use Rattle.packetizer.specs.declared.senders.SenderSettings.{SenderSettings}
use Rattle.packetizer.specs.SenderStates.{State}
use Rattle.packetizer.specs.SenderStanding.{SenderStandsFor, sent_by}
use Rattle.packetizer.proofs.Sending.{media_more, media_now}
use Rattle.packetizer.proofs.senders.Sender.media_at.Goals as goal

pub returns-in-Some-clause-value : goal.returns-in-Some-clause-value
returns-in-Some-clause-value c = λ settings past s.
    let r = subst (λ (st : State). SenderStandsFor settings st past) (sym c.self.view_is) s in
    let step : c.longest_step.result ≡ longest_step settings.generations = c.longest_step.ensures ∙ ap (λ (x : SenderSettings). longest_step x.generations) r.settings_is in
    c.min.ensures ∙ (ap (λ (n : ℕ). min c.args.now (c.in-Some.last.media + n)) step
    ∙ media_more settings.generations (sent_by settings past) c.in-Some.last c.args.now (sym c.in-Some.is ∙ r.last) (sym (c.repeats.ensures settings past s) ∙ c.if-repeats.true))

pub returns-in_default-clause-value : goal.returns-in_default-clause-value
returns-in_default-clause-value c = λ settings past s.
    media_now settings.generations (sent_by settings past) c.args.now (sym (c.repeats.ensures settings past s) ∙ c.if-repeats.false)
