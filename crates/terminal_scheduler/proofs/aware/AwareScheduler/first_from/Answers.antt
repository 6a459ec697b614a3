use Rattle.std.proofs.Common.{◌≡◌, ◌-◌, ◌+◌, ◌<◌, ◌≤◌, ℕ, Option, false, ap, sym, ◌∙◌, arith}
use Rattle.mixer_spec.specs.Table.{is_due_at, is_due_leg}
use Rattle.unaware_view.proofs.Firsts.{first_here, first_later}
use Rattle.terminal_scheduler.proofs.AwareRounding.{first_nowhere}
use Rattle.terminal_scheduler.proofs.aware.AwareScheduler.first_from.Goals as goal

pub loop-place-preserved : goal.loop-place-preserved
loop-place-preserved c = λ s table h.
    let o = c.args.self.now in
    c.loop-place.invariant s table h
    ∙ first_later (is_due_at s table.seats o.own c.args.media (table.terminals o.own)) c.loop-place.place c.args.high (omega (arith, c.loop-place-test.true, c.min-end.ensures)) (sym (c.is_due_at.ensures s table h) ∙ c.if-is_due_at.false)

pub returns-then-is_due_at-clause-first : goal.returns-then-is_due_at-clause-first
returns-then-is_due_at-clause-first c = λ s table h.
    let o = c.args.self.now in
    sym (c.loop-place.invariant s table h
    ∙ first_here (is_due_at s table.seats o.own c.args.media (table.terminals o.own)) c.loop-place.place c.args.high (omega (arith, c.loop-place-test.true, c.min-end.ensures)) (sym (c.is_due_at.ensures s table h) ∙ c.if-is_due_at.true))

pub returns-clause-first : goal.returns-clause-first
returns-clause-first c = λ s table h.
    let o = c.args.self.now in
    let d = table.terminals o.own in
    let at = c.loop-place.place in
    let vacant : (k : ℕ) → at ≤ k → k < at + (c.args.high - at) → is_due_at s table.seats o.own c.args.media d k ≡ false = λ k a b.
    ap (λ (x : Option ℕ). is_due_leg s o.own c.args.media d x)
    (c.reach.ensures.vacant s table h.seats_stand k (omega (arith, a, b, c.loop-place-test.false, c.min-end.ensures)) (omega (arith, a, b, c.requires.high))) in
    sym (c.loop-place.invariant s table h ∙ first_nowhere (is_due_at s table.seats o.own c.args.media d) at (c.args.high - at) vacant)
