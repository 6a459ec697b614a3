use Rattle.command_spec.proofs.AttendedHeadlines.{attended}
use Rattle.command_spec.proofs.laws.attended_are_bridged.Goals as goal

pub returns : goal.returns
returns c = attended
