use Rattle.std.proofs.Common.{ap, ◌∙◌}
use Rattle.mixer_spec.specs.Table.{is_due_at, round_start}
use Rattle.terminal_scheduler.specs.AwareStates.{AwareState}
use Rattle.terminal_scheduler.proofs.AwareRounding.{round_here, round_later}
use Rattle.terminal_scheduler.proofs.aware.AwareScheduler.served_round.Goals as goal

pub returns-in-Some-clause-served : goal.returns-in-Some-clause-served
returns-in-Some-clause-served c = λ s table h.
    let o = c.args.self.now in
    let d = table.terminals o.own in
    round_here (is_due_at s table.seats o.own c.args.media d) c.self.inside.next (round_start d.past) s.places c.in-Some.place
    (ap (λ (x : AwareState). x.next) c.self.view_is ∙ h.there.scheduler.next) h.there.scheduler.places (c.in-Some.ensures.first s table h)

pub returns-in-None-clause-served : goal.returns-in-None-clause-served
returns-in-None-clause-served c = λ s table h.
    let o = c.args.self.now in
    let d = table.terminals o.own in
    round_later (is_due_at s table.seats o.own c.args.media d) c.self.inside.next (round_start d.past) s.places c.first_from-in-None.result
    (ap (λ (x : AwareState). x.next) c.self.view_is ∙ h.there.scheduler.next) h.there.scheduler.places (c.in-None.ensures.first s table h) (c.first_from-in-None.ensures.first s table h)
