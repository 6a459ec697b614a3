use Rattle.std.proofs.Common.{refl}
use Rattle.std.proofs.lemmas.Str.{IsUtf8-from_is_utf8}
use Rattle.mix_loop.proofs.live_ports.LivePort.offer.Goals as goal

pub offer-requires-clause-text : goal.offer-requires-clause-text
offer-requires-clause-text g c = let p = c.args.self.now in record { source = refl; text = p.has c.requires.full; utf8 = IsUtf8-from_is_utf8 p.hand.text (p.utf8 c.requires.full) }
