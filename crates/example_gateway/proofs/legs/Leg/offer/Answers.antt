use Rattle.std.proofs.lemmas.Str.{IsUtf8-from_is_utf8}
use Rattle.example_gateway.proofs.legs.Leg.offer.Goals as goal

pub offer-requires-clause-utf8 : goal.offer-requires-clause-utf8
offer-requires-clause-utf8 c =
    let leg = c.listen.new.self in
    IsUtf8-from_is_utf8 leg.next.text (leg.text (c.listen.ensures.waits c.if-not-listen.false))
