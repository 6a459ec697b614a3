use Rattle.std.proofs.Common.{ap, arith}
use Rattle.view_spec.specs.declared.counts.Counts.{Counts}
use Rattle.playback.proofs.Sendings.{few_sent}
use Rattle.playback.proofs.SaidTexts.{heard_whole, if_ok, if_ok3}
use Rattle.playback.proofs.sent_texts.heard_all.Goals as goal

pub returns-clause-heard : goal.returns-clause-heard
returns-clause-heard c =
    if_ok3 c.told.result c.told.ensures.texts c.told.ensures.counts c.told.ensures.whole (λ t te ce whole x at.
    heard_whole x t c.args.settings c.args.sources.now c.in_ok-texts.texts.items c.count.result (c.requires.sent x at) (c.requires.stream x at) c.requires.some c.has_32_bits.ensures te ce whole (c.count.ensures x at) (c.in_ok-texts.ensures x at))

pub returns-clause-few : goal.returns-clause-few
returns-clause-few c =
    if_ok c.told.result c.told.ensures.counts (λ t ce.
    omega (arith, few_sent c.args.log.now c.args.terminal c.count.result c.requires.terminal c.requires.sent c.count.ensures, ap (λ (n : Counts). n.packets) ce))
