use Rattle.command_spec.proofs.OneBridge.{one_law}
use Rattle.command_spec.proofs.laws.bridges_are_one.Goals as goal

pub returns : goal.returns
returns c = one_law
