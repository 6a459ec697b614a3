use Rattle.std.proofs.Common.{refl}
use Rattle.live_leg.proofs.Beginning.{begun}
use Rattle.live_leg.proofs.legs.Leg.new.Goals as goal

pub returns-clause-stands : goal.returns-clause-stands
returns-clause-stands g c = begun g.A.Arrivals _ (c.in-Ok.ensures.gave c.args.settings.ear.ssrc refl) c.requires.cut c.in-Ok-new.ensures c.new-5.ensures refl c.requires.begins
