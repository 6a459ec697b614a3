use Rattle.std.proofs.Common.{◌<◌, ℕ, sym, subst, ◌∙◌}
use Rattle.mixer_spec.specs.Table.{last_media, sent_from}
use Rattle.terminal_scheduler.proofs.AwareLooking.{not_due_yet}
use Rattle.terminal_scheduler.proofs.AwareResting.{not_due, not_spaced}
use Rattle.terminal_scheduler.proofs.aware.AwareScheduler.due_from.Goals as goal

pub returns-then-is_done_with : goal.returns-then-is_done_with
returns-then-is_done_with c = λ s table h t l.
    let o = c.args.self.now in
    not_due s o.own t c.args.leg (table.terminals o.own) (sym (c.is_done_with.ensures s table h) ∙ c.if-is_done_with.true)

pub returns : goal.returns
returns c = λ s table h t l.
    let o = c.args.self.now in
    let d = table.terminals o.own in
    sym (not_due_yet s o.own t c.args.leg d (not_spaced s.spacing t (last_media (sent_from (s.ssrc c.args.leg) d)) (subst (λ (n : ℕ). t < n) (c.spaced_from.ensures s d h.scheduler) l)))
