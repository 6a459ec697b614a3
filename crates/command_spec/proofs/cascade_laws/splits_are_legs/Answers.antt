use Rattle.command_spec.proofs.Splits.{splits_heard, splits_read}
use Rattle.command_spec.proofs.cascade_laws.splits_are_legs.Goals as goal

pub returns-clause-read : goal.returns-clause-read
returns-clause-read c = splits_read

pub returns-clause-heard : goal.returns-clause-heard
returns-clause-heard c = splits_heard
