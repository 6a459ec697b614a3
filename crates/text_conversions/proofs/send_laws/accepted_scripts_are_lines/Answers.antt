use Rattle.text_conversions.proofs.Accepted.{accepted_lines}
use Rattle.text_conversions.proofs.send_laws.accepted_scripts_are_lines.Goals as goal

pub returns : goal.returns
returns c = accepted_lines
