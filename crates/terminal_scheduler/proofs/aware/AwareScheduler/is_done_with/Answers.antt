use Rattle.std.proofs.Common.{Bool, not, ◌||◌, ap, sym, ◌∙◌}
use Rattle.std.proofs.lemmas.Bool.{ne_eqb}
use Rattle.mixer_spec.specs.Table.{has_work}
use Rattle.terminal_scheduler.specs.AwareStates.{AwareState}
use Rattle.terminal_scheduler.proofs.aware.AwareScheduler.is_done_with.Goals as goal

pub returns-else-leg-self : goal.returns-else-leg-self
returns-else-leg-self c = λ s table h.
    let j = c.args.self.now.own in
    ap not (c.has_work.ensures s table h)
    ∙ ap (λ (b : Bool). b || not (has_work s j (table.terminals j) c.args.leg)) (sym (ne_eqb c.args.leg j (λ e. c.if-leg-self.false (e ∙ sym (ap (λ (x : AwareState). x.own) c.self.view_is)))))
