use Rattle.std.proofs.Common.{◌≡◌, ◌<◌, ◌≤◌, true, false, IsUtf8, Ok, [], ◌∷◌, ◌∙◌, length, refl, ap, sym, arith, subst}
use Rattle.std.proofs.lemmas.Bool.Decides.{nat_tests}
use Rattle.stream_spec.specs.Ready.{Chunk, chunk_of}
use Rattle.rtp_text.specs.Views.{packet_in}
use Rattle.receiver.specs.Cuts.{is_dropped, most_of}
use Rattle.receiver.proofs.EarPlain.{rises_there, gives_plain, plain_ready, primary_utf8, texts_dropped, texts_none, texts_one}
use Rattle.receiver.specs.Hears.{text_for}
use Rattle.receiver.proofs.Giving.{asked_within, gave_front}
use Rattle.receiver.proofs.ears.Ear.hear_plain_chunk.Goals as goal

pub take_plain_piece-requires-clause-rises : goal.take_plain_piece-requires-clause-rises
take_plain_piece-requires-clause-rises c = rises_there c.args.self.now c.args.now c.in-Some-next_in_order.number (packet_in c.in-Some.view) c.in-Some-next_in_order.ensures.next c.in-Some-next_in_order.ensures.number c.requires.gave

pub returns-then-is_empty-clause-none : goal.returns-then-is_empty-clause-none
returns-then-is_empty-clause-none c = λ ok.
    let is : text_for c.args.self.now.settings c.args.octets.now ≡ Ok (packet_in c.in-Some.view) = asked_within c.args.self.now.settings c.args.octets.now c.primary_limit.result (Ok (packet_in c.in-Some.view)) c.primary_limit.ensures c.in-Some.ensures.packet in
    let t = c.if-not-take_plain_piece.false in
    let r = c.take_plain_piece.ensures in
    let e = c.is_empty.ensures in
    let q = c.if-is_empty.true in
    let nothing : length c.in-Some.view.primary.now ≡ 0 = grind (arith, nat_tests) in
    gives_plain c.args.self.now _ c.in-Some.view c.args.now c.in-Some-next_in_order.number c.give_at_once-ready.result c.args.octets.now c.requires.quiet c.in-Some-next_in_order.ensures.number is refl refl
    c.give_at_once-ready.ensures.stands (r.stands t) (r.latest t) (r.heard t) [] (texts_none c.args.self.now.settings.cut c.give_at_once-ready.result c.in-Some.view.primary.now nothing)

pub returns-then-drops-clause-none : goal.returns-then-drops-clause-none
returns-then-drops-clause-none c = λ ok.
    let is : text_for c.args.self.now.settings c.args.octets.now ≡ Ok (packet_in c.in-Some.view) = asked_within c.args.self.now.settings c.args.octets.now c.primary_limit.result (Ok (packet_in c.in-Some.view)) c.primary_limit.ensures c.in-Some.ensures.packet in
    let t = c.if-not-take_plain_piece.false in
    let r = c.take_plain_piece.ensures in
    let e = c.is_empty.ensures in
    let q = c.if-is_empty.false in
    let some : 0 < length c.in-Some.view.primary.now = grind (arith, nat_tests) in
    let blank : is_dropped c.args.self.now.settings.cut c.in-Some.view.primary.now ≡ true = sym c.drops.ensures ∙ c.if-drops.true in
    gives_plain c.args.self.now _ c.in-Some.view c.args.now c.in-Some-next_in_order.number c.give_at_once-ready.result c.args.octets.now c.requires.quiet c.in-Some-next_in_order.ensures.number is refl refl
    c.give_at_once-ready.ensures.stands (r.stands t) (r.latest t) (r.heard t) [] (texts_dropped c.args.self.now.settings.cut c.give_at_once-ready.result c.in-Some.view.primary.now some blank)

pub returns-then-drops-clause-all : goal.returns-then-drops-clause-all
returns-then-drops-clause-all c = λ some. plain_ready c.args.self.now _ c.requires.quiet refl c.give_at_once-ready.ensures.all

pub returns-then-drops-clause-front : goal.returns-then-drops-clause-front
returns-then-drops-clause-front c = λ some. gave_front _

pub returns-clause-some : goal.returns-clause-some
returns-clause-some c = λ ok.
    let is : text_for c.args.self.now.settings c.args.octets.now ≡ Ok (packet_in c.in-Some.view) = asked_within c.args.self.now.settings c.args.octets.now c.primary_limit.result (Ok (packet_in c.in-Some.view)) c.primary_limit.ensures c.in-Some.ensures.packet in
    let t = c.if-not-take_plain_piece.false in
    let r = c.take_plain_piece.ensures in
    let e = c.is_empty.ensures in
    let q = c.if-is_empty.false in
    let some : 0 < length c.in-Some.view.primary.now = grind (arith, nat_tests) in
    let lively : is_dropped c.args.self.now.settings.cut c.in-Some.view.primary.now ≡ false = sym c.drops.ensures ∙ c.if-drops.false in
    let short : length c.in-Some.view.primary.now ≤ most_of c.args.self.now.settings.cut = omega (arith, c.if-view-most.false, c.most.ensures.value) in
    gives_plain c.args.self.now _ c.in-Some.view c.args.now c.in-Some-next_in_order.number c.give_at_once-ready.result c.args.octets.now c.requires.quiet c.in-Some-next_in_order.ensures.number is refl refl
    c.give_at_once-ready.ensures.stands (r.stands t) (r.latest t) (r.heard t) (chunk_of c.write_chunk.new.chunk ∷ [])
    (texts_one c.args.self.now.settings.cut c.give_at_once-ready.result c.in-Some.view.primary.now (chunk_of c.write_chunk.new.chunk) c.write_chunk.ensures some lively short)

pub returns-clause-utf8 : goal.returns-clause-utf8
returns-clause-utf8 c = λ ok.
    let is : text_for c.args.self.now.settings c.args.octets.now ≡ Ok (packet_in c.in-Some.view) = asked_within c.args.self.now.settings c.args.octets.now c.primary_limit.result (Ok (packet_in c.in-Some.view)) c.primary_limit.ensures c.in-Some.ensures.packet in
    subst IsUtf8 (sym (ap (λ (k : Chunk). k.text) c.write_chunk.ensures)) (primary_utf8 c.args.self.now.settings c.args.octets.now c.in-Some.view is)

pub returns-then-is_empty-clause-all : goal.returns-then-is_empty-clause-all
returns-then-is_empty-clause-all c = λ some. plain_ready c.args.self.now _ c.requires.quiet refl c.give_at_once-ready.ensures.all

pub returns-clause-all : goal.returns-clause-all
returns-clause-all c = λ some. plain_ready c.args.self.now _ c.requires.quiet refl c.give_at_once-ready.ensures.all

pub returns-then-is_empty-clause-front : goal.returns-then-is_empty-clause-front
returns-then-is_empty-clause-front c = λ some. gave_front _

pub returns-clause-front : goal.returns-clause-front
returns-clause-front c = λ some. gave_front _

pub returns-then-is_empty-clause-packet : goal.returns-then-is_empty-clause-packet
returns-then-is_empty-clause-packet c = λ some. (packet_in c.in-Some.view, asked_within c.args.self.now.settings c.args.octets.now c.primary_limit.result (Ok (packet_in c.in-Some.view)) c.primary_limit.ensures c.in-Some.ensures.packet)

pub returns-then-drops-clause-packet : goal.returns-then-drops-clause-packet
returns-then-drops-clause-packet c = λ some. (packet_in c.in-Some.view, asked_within c.args.self.now.settings c.args.octets.now c.primary_limit.result (Ok (packet_in c.in-Some.view)) c.primary_limit.ensures c.in-Some.ensures.packet)

pub returns-clause-packet : goal.returns-clause-packet
returns-clause-packet c = λ some. (packet_in c.in-Some.view, asked_within c.args.self.now.settings c.args.octets.now c.primary_limit.result (Ok (packet_in c.in-Some.view)) c.primary_limit.ensures c.in-Some.ensures.packet)
