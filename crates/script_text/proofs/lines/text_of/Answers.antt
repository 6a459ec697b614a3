use Rattle.std.proofs.Common.{Some, ap}
use Rattle.std.proofs.lemmas.Str.{is_utf8-from_IsUtf8}
use Rattle.script_text.proofs.TextLine.{no_text}
use Rattle.script_text.proofs.lines.text_of.Goals as goal

pub returns-in-Ok : goal.returns-in-Ok
returns-in-Ok c = rw (is_utf8-from_IsUtf8 c.args.octets.now c.in-Ok.ensures.1) (ap Some c.in-Ok.ensures.0)

pub returns-in-Err : goal.returns-in-Err
returns-in-Err c = rw (no_text c.args.octets.now c.in-Err.ensures)
