use Rattle.std.proofs.Common.{[], refl}
use Rattle.rtt_words.specs.Words.{Version}
use Rattle.command_spec.specs.Messages.{version_line}
use Rattle.rtt_top.specs.Outside.{outside_at}
use Rattle.rtt_top.proofs.Working.{printed}
use Rattle.rtt_top.proofs.version.version.Goals as goal

pub returns : goal.returns
returns g c =
    let old = outside_at g.W.World g.K.Sink c.args.world.now c.args.out.now in
    let new = outside_at g.W.World g.K.Sink c.args.world.now c.print.new.out in
    printed Version g.W.World.tells g.K.Sink.tells old new [] [] version_line c.print.result refl (λ reads. refl) (λ told name. refl)
    c.print.ensures.fault c.print.ensures.cause c.print.ensures.printed c.print.ensures.partly
