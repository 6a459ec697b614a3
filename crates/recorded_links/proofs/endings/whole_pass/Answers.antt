use Rattle.std.proofs.Common.{sym, ◌∙◌}
use Rattle.recorded_links.proofs.endings.whole_pass.Goals as goal

pub returns-clause-whole : goal.returns-clause-whole
returns-clause-whole g c = (c.in-Some.place, c.in-Some-noter.noter, c.in-Some.is, c.if-place-number.false, c.in-Some-noter.is, sym c.is_over.ensures ∙ c.if-is_over.false, sym c.into_pass.ensures)
