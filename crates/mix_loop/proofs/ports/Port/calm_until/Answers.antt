use Rattle.std.proofs.Common.{arith}
use Rattle.mix_loop.proofs.ports.Port.calm_until.Goals as goal

pub returns : goal.returns
returns g c = λ t l. record {
  waits = λ f. let e = c.ready_from.ensures.waits f in omega (arith, l, e, c.min.ensures);
  ended = λ f. c.ready_from.ensures.ended f (omega (arith, l, c.min.ensures));
  early = λ a. let e = c.seated_until.ensures.early a in omega (arith, l, e, c.min.ensures);
  stays = c.seated_until.ensures.stays t (omega (arith, l, c.min.ensures));
  keeps = c.seated_until.ensures.keeps (omega (arith, l, c.min.ensures));
}
