use Rattle.std.proofs.Common.{take, drop}
use Rattle.text_conversions.proofs.SendLines.{Sends}
use Rattle.text_conversions.proofs.scripts.send_script.Given as goal

abbrev pub invariant-loop-index : goal.invariant-loop-index
invariant-loop-index l = Sends l.fn.settings l.script (take l.index l.script) (drop l.index l.script) l.recorder
