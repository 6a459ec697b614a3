use Rattle.script_text.proofs.FirstLine.{first_is}
use Rattle.script_text.proofs.lines.line_end.Goals as goal

pub returns : goal.returns
returns c = first_is 10 c.args.octets.now c.memchr.result c.memchr.ensures
