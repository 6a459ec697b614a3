use Rattle.std.proofs.Common.{◌++◌, ℕ, List, ap, ◌∙◌}
use Rattle.mixer_spec.specs.Chunks.{front, joined}
use Rattle.terminal_scheduler.proofs.aware.fetch.Goals as goal

pub returns-clause-text : goal.returns-clause-text
returns-clause-text c = λ s table h. c.take.ensures.text s table h ∙ ap (λ (xs : List ℕ). xs ++ joined (front c.args.room ((table.terminals c.args.terminal).waits c.args.leg))) c.clear.ensures
