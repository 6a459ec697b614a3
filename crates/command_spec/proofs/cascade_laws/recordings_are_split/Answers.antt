use Rattle.command_spec.proofs.Recordings.{heard_sendable, recordings_heard, recordings_read}
use Rattle.command_spec.proofs.Lively.{recordings_mixed}
use Rattle.command_spec.proofs.cascade_laws.recordings_are_split.Goals as goal

pub returns-clause-sendable : goal.returns-clause-sendable
returns-clause-sendable c = heard_sendable

pub returns-clause-read : goal.returns-clause-read
returns-clause-read c = recordings_read

pub returns-clause-heard : goal.returns-clause-heard
returns-clause-heard c = recordings_heard

pub returns-clause-mixed : goal.returns-clause-mixed
returns-clause-mixed c = recordings_mixed
