use Rattle.std.proofs.Common.{◌≡◌, not, ap, sym, ◌∙◌}
use Rattle.std.proofs.lemmas.Bool.{true≢false, eq-eqb}
use Rattle.terminal_scheduler.specs.AwareStates.{AwareState}
use Rattle.terminal_scheduler.proofs.AwareLooking.{due_by_work, not_due_own, not_due_yet}
use Rattle.terminal_scheduler.proofs.aware.AwareScheduler.is_due.Goals.{then-leg-self, else-leg-self}
use Rattle.terminal_scheduler.proofs.aware.AwareScheduler.is_due.Goals as goal

pub returns-then-is_spaced : goal.returns-then-is_spaced
returns-then-is_spaced c = λ s table h.
    let d = table.terminals c.args.self.now.own in
    let own : c.self.inside.own ≡ c.args.self.now.own = ap (λ (x : AwareState). x.own) c.self.view_is in
    elim c.if-leg-self.branch [
      | then-leg-self w ↦
          due_by_work s c.args.self.now.own c.args.media c.args.leg d c.has_work.result w.is_spaced.result (λ e. w.if-leg-self.true (e ∙ sym own)) (sym w.value-is ∙ c.if-is_spaced.true)
          (w.is_spaced.ensures s d h.scheduler) (c.has_work.ensures s table h)
      | else-leg-self w ↦ absurd (true≢false (sym c.if-is_spaced.true ∙ (w.value-is ∙ ap not (eq-eqb c.args.leg c.self.inside.own w.if-leg-self.false))))
    ]

pub returns-else-is_spaced : goal.returns-else-is_spaced
returns-else-is_spaced c = λ s table h.
    let d = table.terminals c.args.self.now.own in
    let own : c.self.inside.own ≡ c.args.self.now.own = ap (λ (x : AwareState). x.own) c.self.view_is in
    elim c.if-leg-self.branch [
      | then-leg-self w ↦ c.if-is_spaced.false ∙ not_due_yet s c.args.self.now.own c.args.media c.args.leg d (sym c.if-is_spaced.false ∙ (w.value-is ∙ w.is_spaced.ensures s d h.scheduler))
      | else-leg-self w ↦ c.if-is_spaced.false ∙ not_due_own s c.args.self.now.own c.args.media c.args.leg d (w.if-leg-self.false ∙ own)
    ]
