use Rattle.std.proofs.Common.{◌≡◌, ℕ, true, sym, subst, ◌∙◌, arith}
use Rattle.mixer_spec.specs.Rounds.{all_below}
use Rattle.terminal_scheduler.specs.UnawareStanding.{none_here}
use Rattle.terminal_scheduler.proofs.UnawareWaiting.{all_more, fails_at}
use Rattle.terminal_scheduler.proofs.unaware.is_empty.Goals as goal

pub returns-then-not-none_here : goal.returns-then-not-none_here
returns-then-not-none_here c = λ s t h.
    sym (fails_at (none_here c.args.own (t.terminals c.args.own)) c.args.legs c.loop-source.source c.loop-source-test.true (sym (c.none_here.ensures s t h) ∙ c.if-not-none_here.true))

pub loop-source-preserved : goal.loop-source-preserved
loop-source-preserved c = λ s t h.
    all_more (none_here c.args.own (t.terminals c.args.own)) c.loop-source.source (c.loop-source.invariant s t h) (sym (c.none_here.ensures s t h) ∙ c.if-not-none_here.false)

pub returns : goal.returns
returns c = λ s t h.
    let at_end : c.loop-source.source ≡ c.args.legs = omega arith in
    sym (subst (λ (n : ℕ). all_below (none_here c.args.own (t.terminals c.args.own)) n ≡ true) at_end (c.loop-source.invariant s t h))
