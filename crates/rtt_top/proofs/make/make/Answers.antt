use Rattle.std.proofs.Common.{◌≡◌, ◌++◌, take, ℕ, refl, subst}
use Rattle.std.specs.Prelude.{OnOk, OnErr}
use Rattle.rtt_top.specs.Outside.{outside_at}
use Rattle.rtt_top.proofs.MadeLines.{ends_printed, ends_why}
use Rattle.rtt_top.proofs.make.make.Goals as goal

pub returns-in-Ok : goal.returns-in-Ok
returns-in-Ok g c = λ name.
    let old = outside_at g.W.World g.K.Sink c.args.world.now c.args.out.now in
    let new = outside_at g.W.World g.K.Sink c.args.world.now c.print.new.out in
    ends_printed c.args.number g.W.World.tells g.K.Sink.tells old new name c.in-Ok.line c.print.result c.in-Ok.ensures.line refl
    c.print.ensures.fault c.print.ensures.cause
    (subst (λ line. g.K.Sink.tells → OnOk c.print.result (g.K.Sink.took c.print.new.out ≡ g.K.Sink.took c.args.out.now ++ line)) c.as_slice.ensures c.print.ensures.printed)
    (subst (λ line. g.K.Sink.tells → OnErr c.print.result ((n : ℕ) × (g.K.Sink.took c.print.new.out ≡ g.K.Sink.took c.args.out.now ++ take n line))) c.as_slice.ensures c.print.ensures.partly)

pub returns-in-Err : goal.returns-in-Err
returns-in-Err g c = λ name.
    let here = outside_at g.W.World g.K.Sink c.args.world.now c.args.out.now in
    ends_why c.args.number g.W.World.tells g.K.Sink.tells here name c.in-Err.fault c.in-Err.ensures.why
