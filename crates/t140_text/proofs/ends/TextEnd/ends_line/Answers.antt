use Rattle.t140_text.proofs.ends.TextEnd.ends_line.Goals as goal
use Rattle.std.proofs.Common.{◌∙◌}
use Rattle.t140_text.proofs.Endings.{line_of}

pub returns-clause-line : goal.returns-clause-line
returns-clause-line c text h = c.is_line_end.ensures ∙ line_of c.args.self.now text h
