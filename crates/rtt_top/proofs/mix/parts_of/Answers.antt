use Rattle.std.proofs.Common.{length, arith}
use Rattle.rtt_top.proofs.Taking.{have_taken, left_taken}
use Rattle.rtt_top.proofs.mix.parts_of.Goals as goal

pub returns-in-Ok : goal.returns-in-Ok
returns-in-Ok g c = λ told.
    let took = g.W.Part.Sink.took in
    let log = c.args.log.now in
    let parts = c.in-Ok.parts.items in
    left_taken took log parts c.all_or_none.result.items
    (have_taken took log (length c.args.legs.now) parts (omega (arith, c.in-Ok.parts.ok.0, c.in-Ok.ensures.count)) (c.in-Ok.ensures.parts told)) c.all_or_none.ensures
