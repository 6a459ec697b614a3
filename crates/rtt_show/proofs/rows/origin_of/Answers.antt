use Rattle.std.proofs.Common.{refl}
use Rattle.rtp_text.specs.Headers.{reading}
use Rattle.rtt_show.proofs.Rowing.{origin_is}
use Rattle.rtt_show.proofs.rows.origin_of.Goals as goal

pub returns-in-Ok : goal.returns-in-Ok
returns-in-Ok c = origin_is c.args.octets.now (reading c.in-Ok.view) _ c.in-Ok.ensures c.unwrap_or.ensures refl
