use Rattle.std.proofs.Common.{ap, not, ◌∙◌}
use Rattle.leg.specs.Feds.{Fed}
use Rattle.mix_loop.proofs.Answering.{answered}
use Rattle.leg.proofs.producers.LegInletProducerAnswerDumpFault.next.Goals as goal

pub returns-clause-stands : goal.returns-clause-stands
returns-clause-stands g c = λ first gave s.
    answered (λ first now gave. Fed g.S.Source.tells g.S.Source.left g.S.Source.faults g.S.Source.name first now gave) first c.args.self.now c.ask.new.inlet gave c.ask.result c.ask.new.answer
    c.ask.ensures.is c.ask.ensures.gives s (s.gives.open_still ∙ ap not c.requires)
