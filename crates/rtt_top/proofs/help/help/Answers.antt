use Rattle.std.proofs.Common.{[], refl, ap, sym}
use Rattle.command_spec.specs.Outcomes.{Done}
use Rattle.rtt_words.specs.Words.{Help}
use Rattle.rtt_top.specs.Outside.{outside_at}
use Rattle.rtt_top.proofs.Working.{printed}
use Rattle.rtt_top.proofs.help.help.Goals as goal

pub returns : goal.returns
returns g c =
    let old = outside_at g.W.World g.K.Sink c.args.world.now c.args.out.now in
    let new = outside_at g.W.World g.K.Sink c.args.world.now c.print.new.out in
    printed (Help c.args.topic) g.W.World.tells g.K.Sink.tells old new [] [] c.help_text.result.now c.print.result refl (λ reads. ap (λ octets. Done octets []) (sym c.help_text.ensures)) (λ told name. refl)
    c.print.ensures.fault c.print.ensures.cause c.print.ensures.printed c.print.ensures.partly
