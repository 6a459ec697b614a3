use Rattle.command_spec.proofs.Views.{same_view}
use Rattle.command_spec.proofs.laws.histories_are_shown.Goals as goal

pub returns : goal.returns
returns c = same_view
