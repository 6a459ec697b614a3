use Rattle.std.proofs.Common.{sym, ◌∙◌}
use Rattle.std.proofs.lemmas.List.{take_rest}
use Rattle.script_text.proofs.EscapeLoop.{up_to, all_plain}
use Rattle.script_text.proofs.escapes.split_at_backslash.Goals as goal

pub returns-in-Some-clause-parts : goal.returns-in-Some-clause-parts
returns-in-Some-clause-parts c = rw take_rest (up_to c.args.octets.now c.in-Some.end (sym c.backslash_in.ensures ∙ c.in-Some.is))

pub returns-in-None-clause-parts : goal.returns-in-None-clause-parts
returns-in-None-clause-parts c = all_plain c.args.octets.now (sym c.backslash_in.ensures ∙ c.in-None.is)
