use Rattle.command_spec.proofs.Headlines.{bridged}
use Rattle.command_spec.proofs.laws.mixed_is_bridged.Goals as goal

pub returns : goal.returns
returns c = bridged
