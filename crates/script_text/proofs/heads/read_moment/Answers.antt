use Rattle.std.proofs.Common.{sym}
use Rattle.script_text.proofs.LineHeads.{number_said}
use Rattle.script_text.proofs.heads.read_moment.Goals as goal

pub returns-in-Some : goal.returns-in-Some
returns-in-Some c = sym (number_said c.args.octets.now (c.in-Some.at, c.in-Some.octets.now) (sym c.in-Some.ensures.exact))
