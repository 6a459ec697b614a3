use Rattle.command_spec.proofs.OneBridge.{attended_law}
use Rattle.command_spec.proofs.laws.attended_are_one.Goals as goal

pub returns : goal.returns
returns c = attended_law
