use Rattle.std.proofs.Common.{◌≡◌, true≢false, Some, sym, subst, ◌∙◌}
use Rattle.terminal_scheduler.specs.declared.schedulers.TerminalScheduler.{TerminalScheduler}
use Rattle.terminal_scheduler.specs.Schedulers.{IsCalmBefore}
use Rattle.mixer.proofs.calm.calm_at.Goals as goal
use Rattle.stream_spec.proofs.Plain.{get_read}

pub returns-then-not-is_seated : goal.returns-then-not-is_seated
returns-then-not-is_seated c = λ o at held. absurd (true≢false (sym held ∙ sym c.if-not-is_seated.ensures.place))

pub returns : goal.returns
returns c = λ o at held.
    let here = get_read c.args.schedulers.now c.args.leg c.index-schedulers-leg.result c.requires.leg c.index-schedulers-leg.is in
    let same : Some o ≡ Some c.index-schedulers-leg.result = sym at ∙ here in
    subst (λ (x : TerminalScheduler). IsCalmBefore c.calm_until.result x) (sym (cc same)) c.calm_until.ensures
