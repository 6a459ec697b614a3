use Rattle.std.proofs.Common.{◌≡◌, ◌+◌, ◌-◌, List, ℕ, sym, subst, arith}
use Rattle.command_spec.specs.Draws.{times}
use Rattle.command_spec.specs.Generated.{letter}
use Rattle.rtt_make.proofs.Times.{and_more, over, step}
use Rattle.rtt_make.proofs.texts.draw_word.Goals as goal

pub loop-preserved : goal.loop-preserved
loop-preserved c =
    let whole = times c.args.letters letter c.args.draws.now in
    let fewer = c.args.letters - (c.loop.counter + 1) in
    let P : List ℕ → Type 0 = λ w. whole ≡ and_more w letter fewer c.draw_letter-letter.new.draws in
    subst P (sym c.in_ok-push.ensures.ok) (step letter whole c.loop.word (c.args.letters - c.loop.counter) fewer c.loop.draws c.draw_letter-letter.new.draws c.draw_letter-letter.result
    c.loop.invariant (omega (arith, c.loop-test.true)) c.draw_letter-letter.ensures)

pub returns : goal.returns
returns c = over letter (times c.args.letters letter c.args.draws.now) c.loop.word (c.args.letters - c.loop.counter) c.loop.draws c.loop.invariant (omega (arith, c.loop-test.false))
