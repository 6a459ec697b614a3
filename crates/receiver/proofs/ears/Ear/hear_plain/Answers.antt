use Rattle.std.proofs.Common.{◌≡◌, Ok, length, refl, arith}
use Rattle.rtp_text.specs.Views.{packet_in}
use Rattle.receiver.specs.Hears.{text_for}
use Rattle.receiver.proofs.EarPlain.{rises_at_once, hears_plain}
use Rattle.receiver.proofs.Giving.{asked_within}
use Rattle.receiver.proofs.ears.Ear.hear_plain.Goals as goal

pub take_plain-requires-clause-rises : goal.take_plain-requires-clause-rises
take_plain-requires-clause-rises c = λ latest l.
    let r = c.requires.hears in
    let next = c.in-Some-next_in_order.ensures in
    rises_at_once c.args.self.now c.args.now c.in-Some-next_in_order.number (packet_in c.in-Some.view) r.0 r.1 r.2 next.next next.number r.3.hears latest l

pub returns-clause-hears : goal.returns-clause-hears
returns-clause-hears c = λ plain settings sources story h.
    let is : text_for c.args.self.now.settings c.args.octets.now ≡ Ok (packet_in c.in-Some.view) = asked_within c.args.self.now.settings c.args.octets.now c.primary_limit.result (Ok (packet_in c.in-Some.view)) c.primary_limit.ensures c.in-Some.ensures.packet in
    let t = c.if-not-branch.false in
    let r = c.in_ok-take_plain.ensures in
    let size : length c.take_plain.new.heard ≡ length c.args.heard.now = omega (arith, c.take_plain.auto.heard) in
    hears_plain c.args.self.now _ c.in-Some.view c.args.now c.in-Some-next_in_order.number c.give_at_once-ready.result c.args.octets.now c.args.heard.now c.take_plain.new.heard c.in-Some-next_in_order.ensures.number
    is refl c.give_at_once-ready.ensures.stands c.give_at_once-ready.ensures.all (r.stands t) (r.latest t) (r.heard t) size settings sources story h

pub returns-clause-packet : goal.returns-clause-packet
returns-clause-packet c = λ plain. (packet_in c.in-Some.view, asked_within c.args.self.now.settings c.args.octets.now c.primary_limit.result (Ok (packet_in c.in-Some.view)) c.primary_limit.ensures c.in-Some.ensures.packet)
