use Rattle.unaware_view.proofs.runs.Run.write_first.Goals as goal
use Rattle.std.proofs.Common.{ℕ, List, ◌++◌, sym, ap, ◌∙◌, encode_utf8}
use Rattle.unaware_view.proofs.RunSteps.{write_step}

pub returns-clause-writes : goal.returns-clause-writes
returns-clause-writes c first alone behind_cr run cs before w =
    let one = c.in-Some.c in
    write_step c.args.name.now first c.args.self.now c.write_next.new.self alone behind_cr run cs before c.args.out.now c.write_next.new.out c.args.text.now c.as_str.result.now one
    (sym c.chars-chars.ensures.rest ∙ (c.in-Some.ensures.steps.0 ∙ ap (λ (l : List ℕ). encode_utf8 one ++ l) (sym c.as_str.ensures)))
    c.write_next.ensures.run c.write_next.ensures.out w
