use Rattle.command_spec.proofs.CascadedHeadlines.{cascaded}
use Rattle.command_spec.proofs.laws.cascades_are_bridged.Goals as goal

pub returns : goal.returns
returns c = cascaded
