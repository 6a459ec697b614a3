use Rattle.std.proofs.Math.Logic.{∥∥₁_map}
use Rattle.reorder_buffer.specs.Stories.{ended}
use Rattle.receiver.specs.Hears.{text_for, told}
use Rattle.live_leg.proofs.Ears.{becomes_giving}
use Rattle.live_leg.proofs.Taking.{sent_first, sent_other, sent_sender, sent_unheard}
use Rattle.live_leg.proofs.takes.hear_sent.Goals as goal

pub returns-in-Refused-clause-hears : goal.returns-in-Refused-clause-hears
returns-in-Refused-clause-hears c = sent_unheard c.args.sent c.args.ear.now _ _ c.args.octets.now c.in-Refused.is

pub returns-in-Sender-clause-hears : goal.returns-in-Sender-clause-hears
returns-in-Sender-clause-hears c =
    sent_sender c.args.sent c.args.ear.now c.hear-refused.new.self _ c.moment.result c.args.senders.now.moment c.args.octets.now c.in-Sender.is
    c.moment.ensures.value c.hear-refused.ensures.becomes c.hear-refused.ensures.settings

pub returns-in-Sender-clause-giving : goal.returns-in-Sender-clause-giving
returns-in-Sender-clause-giving c =
    ∥∥₁_map c.requires.giving (becomes_giving c.args.ear.now c.hear-refused.new.self (λ settings story. told story c.moment.result (text_for settings c.args.octets.now)) c.hear-refused.ensures.becomes)

pub returns-in-First-clause-hears : goal.returns-in-First-clause-hears
returns-in-First-clause-hears c =
    sent_first c.args.sent c.args.ear.now c.begin_with.new.ear c.ssrc.result _ c.moment-in-First.result c.args.senders.now.moment c.args.octets.now c.in-First.is
    c.ssrc.ensures c.moment-in-First.ensures.value c.begin_with.ensures.begins

pub returns-in-Other-clause-hears : goal.returns-in-Other-clause-hears
returns-in-Other-clause-hears c =
    sent_other c.args.sent c.args.ear.now c.finish.new.self _ _ c.args.octets.now c.in-Other.is c.finish.ensures.becomes c.finish.ensures.all c.finish.ensures.settings

pub returns-in-Other-clause-giving : goal.returns-in-Other-clause-giving
returns-in-Other-clause-giving c =
    ∥∥₁_map c.requires.giving (becomes_giving c.args.ear.now c.finish.new.self (λ settings story. ended story) c.finish.ensures.becomes)
