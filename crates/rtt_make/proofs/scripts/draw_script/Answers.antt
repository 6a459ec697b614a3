use Rattle.std.proofs.Common.{◌≡◌, ◌+◌, ◌-◌, List, [], ◌∷◌, ◌++◌, ℕ, sym, ap, subst, ◌∙◌, arith}
use Rattle.file_spec.specs.Script.{ScriptLine}
use Rattle.command_spec.specs.Generated.{script_from}
use Rattle.rtt_make.proofs.Times.{and_script, script_over, script_step}
use Rattle.rtt_make.proofs.scripts.draw_script.Goals as goal

pub loop-preserved : goal.loop-preserved
loop-preserved c =
    let whole = script_from c.args.lines c.args.from c.args.draws.now in
    let fewer = c.args.lines - (c.loop.counter + 1) in
    let next = c.loop.at + (100 + c.draw.result) in
    let P : List ScriptLine → Type 0 = λ s. whole ≡ and_script s fewer next c.draw.new.self in
    let octets : List ℕ = c.draw_text.new.typed in
    let line : List ℕ → ScriptLine = λ text. record { line = 0; at = c.loop.at; text = text } in
    let pushed : c.push.new.self ≡ c.loop.script ++ line octets ∷ [] = c.in_ok-push.ensures.ok ∙ ap (λ (t : List ℕ). c.loop.script ++ line t ∷ []) c.as_slice.ensures in
    record {
      early = let a = c.loop.invariant.early in let b = c.draw.ensures.below in omega arith;
      lines = subst P (sym pushed) (script_step whole c.loop.script (c.args.lines - c.loop.counter) fewer c.loop.at c.loop.draws c.draw_text.new.draws c.draw.new.self octets c.draw.result
          c.loop.invariant.lines (omega (arith, c.loop-test.true)) c.in_ok-draw_text.ensures c.draw.ensures.drawn);
    }

pub returns : goal.returns
returns c = script_over (script_from c.args.lines c.args.from c.args.draws.now) c.loop.script (c.args.lines - c.loop.counter) c.loop.at c.loop.draws c.loop.invariant.lines (omega (arith, c.loop-test.false))
