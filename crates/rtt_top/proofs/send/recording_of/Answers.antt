use Rattle.text_conversions.proofs.Accepted.{accepted_lines}
use Rattle.text_conversions.proofs.SendLines.{script_typed}
use Rattle.rtt_top.proofs.send.recording_of.Goals as goal

pub send_script-requires-clause-lines : goal.send_script-requires-clause-lines
send_script-requires-clause-lines g c = let read = c.in-Ok.ensures.read in script_typed c.in-Ok.script (accepted_lines read.0 c.in-Ok.script read.2)
