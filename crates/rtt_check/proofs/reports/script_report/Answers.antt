use Rattle.text_conversions.proofs.Accepted.{accepted_lines}
use Rattle.text_conversions.proofs.SendLines.{script_typed}
use Rattle.rtt_check.proofs.reports.script_report.Goals as goal

pub script_sent-requires : goal.script_sent-requires
script_sent-requires c = script_typed c.in-Ok.script (accepted_lines c.args.octets.now c.in-Ok.script c.in-Ok.ensures.value)
