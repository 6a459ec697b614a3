use Rattle.std.proofs.Common.{sym, ◌∙◌}
use Rattle.script_text.proofs.LineHeads.{no_space_said, no_number_said}
use Rattle.script_text.proofs.heads.no_moment.Goals as goal

pub returns-in-Some : goal.returns-in-Some
returns-in-Some c = λ none. no_number_said c.args.octets.now _ (sym c.space_in.ensures ∙ c.in-Some.is) none

pub returns-in-None : goal.returns-in-None
returns-in-None c = λ _. no_space_said c.args.octets.now (sym c.space_in.ensures ∙ c.in-None.is)
