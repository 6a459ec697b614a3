use Rattle.command_spec.proofs.OneBridge.{cascaded_law}
use Rattle.command_spec.proofs.laws.cascades_are_one.Goals as goal

pub returns : goal.returns
returns c = cascaded_law
