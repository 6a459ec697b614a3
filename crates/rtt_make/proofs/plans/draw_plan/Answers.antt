use Rattle.std.proofs.Common.{◌+◌, ◌-◌, [], ◌∷◌, ◌++◌, ap, sym, ◌∙◌, arith}
use Rattle.command_spec.specs.Draws.{times}
use Rattle.command_spec.specs.Generated.{plan_line, without_repeats}
use Rattle.rtt_make.proofs.Times.{over, step}
use Rattle.rtt_make.proofs.Repeats.{added}
use Rattle.rtt_make.proofs.plans.draw_plan.Goals as goal

pub loop-preserved : goal.loop-preserved
loop-preserved c =
    let line = c.draw_line-line.result in
    let known = c.loop.invariant in
    record {
      front = known.front ++ line ∷ [];
      kept = c.in_ok-add.ensures ∙ added line known.front c.loop.plan known.kept;
      drawn = step (plan_line c.args.legs) (times 200 (plan_line c.args.legs) c.args.draws.now) known.front (200 - c.loop.counter) (200 - (c.loop.counter + 1)) c.loop.draws c.draw_line-line.new.draws line
          known.drawn (omega (arith, c.loop-test.true)) c.draw_line-line.ensures;
    }

pub returns-clause-lines : goal.returns-clause-lines
returns-clause-lines c =
    let e = over (plan_line c.args.legs) (times 200 (plan_line c.args.legs) c.args.draws.now) c.loop.invariant.front (200 - c.loop.counter) c.loop.draws c.loop.invariant.drawn (omega (arith, c.loop-test.false)) in
    c.loop.invariant.kept ∙ ap (λ d. without_repeats d.0) (sym e)

pub returns-clause-state : goal.returns-clause-state
returns-clause-state c =
    let e = over (plan_line c.args.legs) (times 200 (plan_line c.args.legs) c.args.draws.now) c.loop.invariant.front (200 - c.loop.counter) c.loop.draws c.loop.invariant.drawn (omega (arith, c.loop-test.false)) in
    ap (λ d. d.1) (sym e)
