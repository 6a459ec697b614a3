use Rattle.std.proofs.Common.{sym, ap, ◌∙◌}
use Rattle.mixer_spec.specs.Table.{is_due_at, round_start}
use Rattle.unaware_view.proofs.Firsts.{first_here}
use Rattle.terminal_scheduler.specs.AwareStates.{AwareState}
use Rattle.terminal_scheduler.proofs.AwareRounding.{round_here}
use Rattle.terminal_scheduler.proofs.aware.AwareScheduler.served.Goals as goal

pub returns-then-is_due_at-clause-served : goal.returns-then-is_due_at-clause-served
returns-then-is_due_at-clause-served c = λ s table h.
    let o = c.args.self.now in
    let d = table.terminals o.own in
    let due = is_due_at s table.seats o.own c.args.media d in
    let next = c.self.inside.next in
    round_here due next (round_start d.past) s.places next
    (ap (λ (x : AwareState). x.next) c.self.view_is ∙ h.there.scheduler.next) h.there.scheduler.places
    (sym (first_here due next 16 c.if-self-lt-PLACES.true (sym (c.is_due_at.ensures s table h) ∙ c.if-is_due_at.true)))
