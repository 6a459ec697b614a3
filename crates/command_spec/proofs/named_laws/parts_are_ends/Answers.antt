use Rattle.command_spec.proofs.named_laws.parts_are_ends.Goals as goal
use Rattle.command_spec.proofs.Showing.{ends_law}

pub returns : goal.returns
returns c = ends_law
