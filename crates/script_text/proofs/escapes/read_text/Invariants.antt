use Rattle.std.proofs.Common.{length}
use Rattle.script_text.proofs.EscapeLoop.{HasRead}
use Rattle.script_text.proofs.escapes.read_text.Given as goal

abbrev pub invariant-loop-run : goal.invariant-loop-run
invariant-loop-run l = HasRead l.octets l.rest l.text

abbrev pub decreases-loop-run : goal.decreases-loop-run
decreases-loop-run l = length l.rest
