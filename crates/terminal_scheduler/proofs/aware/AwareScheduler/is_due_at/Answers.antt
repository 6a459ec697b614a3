use Rattle.std.proofs.Common.{ℕ, Option, ap, ◌∙◌}
use Rattle.mixer_spec.specs.Table.{is_due_leg}
use Rattle.terminal_scheduler.proofs.aware.AwareScheduler.is_due_at.Goals as goal

pub returns-in-Some : goal.returns-in-Some
returns-in-Some c = λ s table h.
    let o = c.args.self.now in
    c.is_due.ensures s table h.there ∙ ap (λ (x : Option ℕ). is_due_leg s o.own c.args.media (table.terminals o.own) x) (c.in-Some.ensures.leg s table h.seats_stand)
