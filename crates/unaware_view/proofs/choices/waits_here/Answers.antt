use Rattle.unaware_view.proofs.choices.waits_here.Goals as goal
use Rattle.std.proofs.Common.{Bool, not, ◌&&◌, ap, sym, ◌∙◌}
use Rattle.std.proofs.lemmas.Bool.{ne_eqb}
use Rattle.mixer_spec.specs.Chunks.{has_chunk}

pub returns : goal.returns
returns c = λ s t h. c.has_waiting.ensures s t h ∙ ap (λ (b : Bool). not b && has_chunk ((t.terminals c.args.own).waits c.args.leg)) (sym (ne_eqb c.args.leg c.args.own c.if-leg-own.false))
