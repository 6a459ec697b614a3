use Rattle.std.proofs.Common.{[], ◌∷◌, List, ap, subst, sym, ◌∙◌}
use Rattle.stream_spec.specs.Own.{Sent, has_text_in}
use Rattle.stream_spec.specs.Typed.{sents}
use Rattle.packetizer.specs.declared.senders.SenderSettings.{SenderSettings}
use Rattle.packetizer.specs.SenderSettings.{AreSettings, output_of}
use Rattle.packetizer.specs.SenderStates.{State}
use Rattle.packetizer.specs.SenderStanding.{SenderStandsFor, sent_by}
use Rattle.packetizer.proofs.Sending.{own_sents}
use Rattle.packetizer.proofs.senders.Sender.repeats.Goals as goal

pub returns : goal.returns
returns c = λ settings past s.
    let r = subst (λ (st : State). SenderStandsFor settings st past) (sym c.self.view_is) s in
    let k = subst (λ (x : SenderSettings). AreSettings x) r.settings_is c.self.invariant.settings in
    c.due.ensures (output_of settings) (settings.ssrc ∷ []) (sents (sent_by settings past)) r.output
    ∙ ap (λ (zs : List Sent). has_text_in settings.generations zs) (own_sents settings past k r.script)
