use Rattle.std.proofs.Common.{length}
use Rattle.script_text.proofs.ScriptLoop.{HasReadLines}
use Rattle.script_text.proofs.script_reader.read_script.Given as goal

abbrev pub invariant-loop-line : goal.invariant-loop-line
invariant-loop-line l = HasReadLines l.bytes l.rest l.script l.latest l.number l.known

abbrev pub decreases-loop-line : goal.decreases-loop-line
decreases-loop-line l = length l.rest
