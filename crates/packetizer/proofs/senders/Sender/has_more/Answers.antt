use Rattle.std.proofs.Common.{ap, sym, subst, ◌∙◌, Bool}
use Rattle.std.specs.Prelude.{◌||◌}
use Rattle.wire_spec.specs.Packets.{has_text}
use Rattle.stream_spec.specs.Own.{has_text_in}
use Rattle.stream_spec.specs.Typed.{sents}
use Rattle.packetizer.specs.SenderStates.{State}
use Rattle.packetizer.specs.SenderStanding.{SenderStandsFor, sent_by}
use Rattle.packetizer.proofs.Sending.{no_text}
use Rattle.packetizer.proofs.senders.Sender.has_more.Goals as goal

pub returns-else-not-is_empty : goal.returns-else-not-is_empty
returns-else-not-is_empty c = λ settings past s.
    let r = subst (λ (st : State). SenderStandsFor settings st past) (sym c.self.view_is) s in
    c.repeats.ensures settings past s
    ∙ sym (ap (λ (b : Bool). b || has_text_in settings.generations (sents (sent_by settings past))) (sym (ap has_text r.waits) ∙ no_text c.self.inside.waiting (sym c.is_empty.ensures ∙ c.if-not-is_empty.false)))
