use Rattle.std.proofs.Common.{Bool, not, ◌||◌, ap, sym, ◌∙◌}
use Rattle.std.proofs.lemmas.Bool.{ne_eqb}
use Rattle.mixer_spec.specs.Chunks.{has_chunk}
use Rattle.terminal_scheduler.proofs.unaware.none_here.Goals as goal

pub returns : goal.returns
returns c = λ s t h. ap not (c.has_waiting.ensures s t h) ∙ ap (λ (b : Bool). b || not (has_chunk ((t.terminals c.args.own).waits c.args.source))) (sym (ne_eqb c.args.source c.args.own c.if-source-own.false))
