use Rattle.std.proofs.Common.{◌+◌, ◌-◌, List, [], ◌∷◌, ◌++◌, ℕ, map, sym, ap, ◌∙◌, arith}
use Rattle.std.proofs.lemmas.List.{map-append}
use Rattle.file_spec.specs.Script.{ScriptLine}
use Rattle.command_spec.specs.Draws.{times}
use Rattle.command_spec.specs.Generated.{Typist, typist}
use Rattle.rtt_make.proofs.Times.{over, step}
use Rattle.rtt_make.proofs.conferences.draw_typed.Goals as goal

pub loop-preserved : goal.loop-preserved
loop-preserved c =
    let known = c.loop.invariant in
    let drawn : Typist = record { first = c.in_ok-typist.typist.seq; script = c.in_ok-typist.typist.script } in
    let script_of : Typist → List ScriptLine = λ t. t.script in
    let first_of : Typist → ℕ = λ t. t.first in
    record {
      front = known.front ++ drawn ∷ [];
      scripts = c.in_ok-push-2.ensures.ok ∙ (ap (λ (l : List (List ScriptLine)). l ++ drawn.script ∷ []) known.scripts ∙ sym (map-append script_of known.front (drawn ∷ [])));
      seqs = c.in_ok-push.ensures.ok ∙ (ap (λ (l : List ℕ). l ++ drawn.first ∷ []) known.seqs ∙ sym (map-append first_of known.front (drawn ∷ [])));
      drawn = step typist (times c.args.legs typist c.args.draws.now) known.front (c.args.legs - c.loop.counter) (c.args.legs - (c.loop.counter + 1)) c.loop.draws c.draw_typist.new.draws drawn
          known.drawn (omega (arith, c.loop-test.true)) c.in_ok-typist.ensures;
    }

pub returns-clause-scripts : goal.returns-clause-scripts
returns-clause-scripts c =
    let e = over typist (times c.args.legs typist c.args.draws.now) c.loop.invariant.front (c.args.legs - c.loop.counter) c.loop.draws c.loop.invariant.drawn (omega (arith, c.loop-test.false)) in
    c.loop.invariant.scripts ∙ ap (λ d. map (λ (t : Typist). t.script) d.0) (sym e)

pub returns-clause-seqs : goal.returns-clause-seqs
returns-clause-seqs c =
    let e = over typist (times c.args.legs typist c.args.draws.now) c.loop.invariant.front (c.args.legs - c.loop.counter) c.loop.draws c.loop.invariant.drawn (omega (arith, c.loop-test.false)) in
    c.loop.invariant.seqs ∙ ap (λ d. map (λ (t : Typist). t.first) d.0) (sym e)

pub returns-clause-state : goal.returns-clause-state
returns-clause-state c =
    let e = over typist (times c.args.legs typist c.args.draws.now) c.loop.invariant.front (c.args.legs - c.loop.counter) c.loop.draws c.loop.invariant.drawn (omega (arith, c.loop-test.false)) in
    ap (λ d. d.1) (sym e)
