use Rattle.view_spec.proofs.Kept.{shown_prints}
use Rattle.view_spec.proofs.Lines.{shown_some, never_longer}
use Rattle.view_spec.proofs.text_laws.lines.Goals as goal

pub returns-clause-some : goal.returns-clause-some
returns-clause-some c = shown_some

pub returns-clause-plain : goal.returns-clause-plain
returns-clause-plain c = shown_prints

pub returns-clause-short : goal.returns-clause-short
returns-clause-short c = never_longer
