use Rattle.std.proofs.Common.{sym, ◌∙◌}
use Rattle.stream_spec.specs.Ready.{chunk_of}
use Rattle.leg.proofs.Feeding.{fed_step, more_from, not_over, chunk_from}
use Rattle.leg.proofs.inlets.LegInletInlet.next.Goals as goal

pub returns-clause-good : goal.returns-clause-good
returns-clause-good g c = λ e. not_over _ c.item_of.result c.step-step.result c.item_of.ensures c.step-step.ensures.over e

pub returns-clause-text : goal.returns-clause-text
returns-clause-text g c = λ e.
    let heard = chunk_from c.step-step.result (sym c.item_of.ensures ∙ e) in
    record { text = c.step-step.ensures.text heard; utf8 = c.step-step.ensures.utf8 heard }

pub returns-clause-stands : goal.returns-clause-stands
returns-clause-stands g c = λ first gave fed.
    rw c.item_of.ensures
    (fed_step g.S.Source.tells g.S.Source.left g.S.Source.faults g.S.Source.name first c.args.self.now _ gave fed c.requires c.step-step.ensures.never_falls c.step-step.ensures.same_name
    (chunk_of c.step-step.new.chunk) c.step-step.result c.step-step.ensures.over c.step-step.ensures.steps c.step-step.ensures.read c.step-step.ensures.calm)

pub returns-clause-nearer : goal.returns-clause-nearer
returns-clause-nearer g c = λ e. c.step-step.ensures.nearer (more_from c.step-step.result (sym c.item_of.ensures ∙ e))
