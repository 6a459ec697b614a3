use Rattle.command_spec.proofs.named_laws.composed_is_named.Goals as goal
use Rattle.command_spec.proofs.NamedNaming.{composed_named}

pub returns : goal.returns
returns c = composed_named
